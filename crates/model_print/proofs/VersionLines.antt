-- Whether the text has the line of the version where an edge or a vertex is left out.
use Rattle.std.proofs.Common.{◌≡◌, ℕ, zero, suc, ◌<◌, Bool, true, false, ◌||◌, List, [], ◌∷◌, ◌++◌, map, take, drop, slice_get, refl, sym, ◌∙◌, ap, ap₂}
use Rattle.std.proofs.lemmas.List.{append_cancel_left, map-append}
use Rattle.std.proofs.lemmas.List.Folds.{list_any-append}
use Rattle.std.specs.Prelude.{codes}
use Rattle.std.specs.List.{flat_map, list_any, remove}
use Rattle.std.specs.Option.{option_map_or}
use Rattle.std.proofs.Math.Bool.{or_comm}
use Rattle.model_core.specs.EventGraph.{EventGraph}
use Rattle.model_core.specs.Text.Canonical.{variable_line, table_line, watched_name, watch_names_line, version_line}
use Rattle.model_core.specs.Text.VersionNeeded.{is_large_array, has_later_parts, needs_version_two}
use Rattle.model_core.specs.Rules.Drop.{vertex_renumbered}
use Rattle.model_core.specs.Rules.Fuse.{fused_place, fused}
use Rattle.model_core.specs.Rules.Merge.{is_watched_vertex}
use Rattle.model_core.specs.Rules.PlacedEdges.{with_place}
use Rattle.model_core.specs.Rules.Prune.{without_edge, pruned}
use Rattle.model_core.proofs.FusedText.{same_declarations}
use Rattle.model_core.proofs.Images.{map-remove}
use Rattle.model_core.proofs.VersionParts.{list_any-map, has_later_parts-renumbered}

together : (a b c : Bool) → ((a || b) || c) ≡ (a || (b || c))
together true b c = refl
together false b c = refl

-- all but the one at a place: those before it, or else those after it
module _ {X Y : Type 0} (view : X → Y) (test : Y → Bool) (xs : List X) (k j : ℕ) (next : j ≡ suc k) where
  apart : (list_any test (map view (take k xs)) || list_any test (map view (drop j xs))) ≡ list_any test (remove (map view xs) k)
  apart =
      ap (λ i. list_any test (map view (take k xs)) || list_any test (map view (drop i xs))) next
      ∙ sym (list_any-append test (map view (take k xs)) (map view (drop (suc k) xs)))
      ∙ ap (list_any test) (sym (map-append view (take k xs) (drop (suc k) xs)) ∙ map-remove view xs k)

  pub any_before : (b : Bool) → b ≡ true → b ≡ list_any test (map view (take k xs)) → b ≡ list_any test (remove (map view xs) k)
  any_before b so is = so ∙ ap (λ a. a || list_any test (map view (drop j xs))) (sym so ∙ is) ∙ apart

  pub any_after_place : (b c : Bool) → b ≡ false → b ≡ list_any test (map view (take k xs)) → c ≡ list_any test (map view (drop j xs)) → c ≡ list_any test (remove (map view xs) k)
  any_after_place b c so before after = ap₂ (λ a d. a || d) (sym so ∙ before) after ∙ apart

-- all but the one at a place, and then that one changed
any_changed : {A : Type 0} (test : A → Bool) (f : A → A) (k : ℕ) (xs : List A) → (list_any test (remove xs k) || option_map_or (λ x. test (f x)) (slice_get xs k) false) ≡ list_any test (with_place f k xs)
any_changed test f zero [] = refl
any_changed test f (suc k) [] = refl
any_changed test f zero (x ∷ xs) = or_comm (list_any test xs) (test (f x))
any_changed test f (suc k) (x ∷ xs) = together (test x) (list_any test (remove xs k)) (option_map_or (λ y. test (f y)) (slice_get xs k) false) ∙ ap (λ b. test x || b) (any_changed test f k xs)

-- the model without an edge: what needs a later version is in another vertex, or else in the one that lacks the edge
module _ (g : EventGraph) (vertex edge : ℕ) where
  pruned_apart : ((list_any is_large_array g.variables || list_any has_later_parts (remove g.vertices vertex)) || option_map_or (λ v. has_later_parts (without_edge edge v)) (slice_get g.vertices vertex) false) ≡ needs_version_two (pruned g vertex edge)
  pruned_apart =
      together (list_any is_large_array g.variables) (list_any has_later_parts (remove g.vertices vertex)) (option_map_or (λ v. has_later_parts (without_edge edge v)) (slice_get g.vertices vertex) false)
      ∙ ap (λ b. list_any is_large_array g.variables || b) (any_changed has_later_parts (without_edge edge) vertex g.vertices)

  pub needed_pruned_before : (b : Bool) → b ≡ true → b ≡ (list_any is_large_array g.variables || list_any has_later_parts (remove g.vertices vertex)) → b ≡ needs_version_two (pruned g vertex edge)
  needed_pruned_before b so is = so ∙ ap (λ a. a || option_map_or (λ v. has_later_parts (without_edge edge v)) (slice_get g.vertices vertex) false) (sym so ∙ is) ∙ pruned_apart

  pub needed_pruned_after : (b c : Bool) → b ≡ false → b ≡ (list_any is_large_array g.variables || list_any has_later_parts (remove g.vertices vertex)) → c ≡ option_map_or (λ v. has_later_parts (without_edge edge v)) (slice_get g.vertices vertex) false → c ≡ needs_version_two (pruned g vertex edge)
  needed_pruned_after b c so before after = ap₂ (λ a d. a || d) (sym so ∙ before) after ∙ pruned_apart

pub needed_fused : (g : EventGraph) (keep gone : ℕ) → (list_any is_large_array g.variables || list_any has_later_parts (remove g.vertices gone)) ≡ needs_version_two (fused g keep gone)
needed_fused g keep gone = ap (λ b. list_any is_large_array g.variables || b) (sym (list_any-map has_later_parts (vertex_renumbered (fused_place keep gone)) has_later_parts (has_later_parts-renumbered (fused_place keep gone)) (remove g.vertices gone)))

-- what comes before the vertices
abbrev pub declared : EventGraph → Bool → List (List ℕ) → List ℕ
declared g needed watched = version_line needed ++ codes "model " ++ g.name ++ codes ";\n" ++ flat_map variable_line g.variables ++ flat_map table_line g.tables ++ watch_names_line watched

pub declared_fused : (g : EventGraph) (keep gone : ℕ) → keep < gone → is_watched_vertex g gone ≡ false → (needed : Bool) → needed ≡ (list_any is_large_array g.variables || list_any has_later_parts (remove g.vertices gone))
    → declared g needed (map (watched_name g) g.watch) ≡ declared (fused g keep gone) (needs_version_two (fused g keep gone)) (map (watched_name (fused g keep gone)) (fused g keep gone).watch)
declared_fused g keep gone first unwatched needed is =
    let h = fused g keep gone in
    ap₂ (λ (b : Bool) (line : List ℕ). version_line b ++ codes "model " ++ g.name ++ codes ";\n" ++ flat_map variable_line g.variables ++ flat_map table_line g.tables ++ line)
    (is ∙ needed_fused g keep gone)
    (append_cancel_left (codes "model " ++ g.name ++ codes ";\n" ++ flat_map variable_line g.variables ++ flat_map table_line g.tables) (watch_names_line (map (watched_name g) g.watch)) (watch_names_line (map (watched_name h) h.watch)) (same_declarations g keep gone first unwatched))
