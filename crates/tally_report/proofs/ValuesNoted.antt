-- The values noted at a place of the watch list are the state's values of the thing there.
use Rattle.std.proofs.Common.{◌≡◌, ℕ, zero, suc, List, [], ◌∷◌, map, refl, sym, ap, ◌∙◌, ◌<◌, ◌≤◌, length, get_or}
use Rattle.std.specs.Prelude.{slice_get, option_map}
use Rattle.std.specs.Option.{option_map_or}
use Rattle.std.proofs.lemmas.Option.{slice_get-map, slice_get-get_or, slice_get_past}
use Rattle.model_core.specs.EventGraph.{Watched, WatchedVariable, WatchedVertex}
use Rattle.model_core.specs.Run.State.{State}
use Rattle.model_core.specs.Run.History.{watched_values}
use Rattle.tally_report.specs.CellCourse.{cells_noted}
use Rattle.sig_expr.specs.WatchedValues.{values_watched}

noted-is : (watch : List Watched) (s : State) (place : ℕ) → cells_noted watch (watched_values watch s) place ≡ option_map_or (values_watched s) (slice_get watch place) []
noted-is [] s place = refl
noted-is (WatchedVertex v ∷ watch) s zero = refl
noted-is (WatchedVertex v ∷ watch) s (suc place) = noted-is watch s place
noted-is (WatchedVariable v ∷ watch) s zero = refl
noted-is (WatchedVariable v ∷ watch) s (suc place) = noted-is watch s place

module _ {X : Type 0} (view : X → Watched) (ws : List X) (s : State) (place : ℕ) where
  looked-up : cells_noted (map view ws) (watched_values (map view ws) s) place ≡ option_map_or (values_watched s) (option_map view (slice_get ws place)) []
  looked-up = noted-is (map view ws) s place ∙ ap (λ o. option_map_or (values_watched s) o []) (slice_get-map view ws place)

  pub noted-at : (w : X) → place < length ws → w ≡ get_or ws place w → cells_noted (map view ws) (watched_values (map view ws) s) place ≡ values_watched s (view w)
  noted-at w within is = looked-up ∙ ap (λ o. option_map_or (values_watched s) (option_map view o) []) (slice_get-get_or ws place w within) ∙ ap (λ w. values_watched s (view w)) (sym is)

  pub noted-beyond : length ws ≤ place → cells_noted (map view ws) (watched_values (map view ws) s) place ≡ []
  noted-beyond past = looked-up ∙ ap (λ o. option_map_or (values_watched s) (option_map view o) []) (slice_get_past ws place past)
