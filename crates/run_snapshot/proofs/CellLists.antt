-- The values of each variable and those of all cells say the same.
use Rattle.std.proofs.Common.{◌≡◌, ℕ, zero, suc, ◌<◌, ℤ, Bool, true, ◌&&◌, List, [], ◌∷◌, length, replicate, map, slice_index_or, refl, sym, ap₂, ◌∙◌, arith, IsTrue}
use Rattle.std.specs.Prelude.{slice_get}
use Rattle.std.specs.Option.{option_map_or}
use Rattle.std.specs.List.{AllByRecursion}
use Rattle.std.proofs.lemmas.List.{length-replicate}
use lib.Pointwise.{pointwise, pointwise_long}
use Rattle.model_core.specs.EventGraph.{EventGraph, Variable, Watched, WatchedVariable, WatchedVertex}
use Rattle.model_core.specs.Run.State.{State, cell_count, within, in_ranges, in_range}
use Rattle.model_core.specs.Run.History.{watched_values}
use Rattle.model_core.specs.Static.OwnRules.{IsWatchable}
use Rattle.model_core.proofs.BothTrue.{and_first, and_second}
use Rattle.model_core.specs.Saved.Cells.{watched_sizes, in_one_list, cell_variables, variables_watched}
use Rattle.model_core.proofs.RangesTogether.{in_ranges-append}

-- values in range, a list for each variable
abbrev pub each_in_range : List Variable → List (List ℤ) → Bool
each_in_range variables values = pointwise (λ v cells. in_ranges (replicate (cell_count v) v) cells) variables values

-- so they are as many as each variable has
pub lengths-in_range : (variables : List Variable) (values : List (List ℤ)) → each_in_range variables values ≡ true → map (λ cells. length cells) values ≡ map cell_count variables
lengths-in_range [] [] e = refl
lengths-in_range [] (xs ∷ values) e = cc
lengths-in_range (v ∷ variables) [] e = cc
lengths-in_range (v ∷ variables) (xs ∷ values) e =
    let long = pointwise_long (λ (v : Variable) (x : ℤ). within v.lo v.hi x) (replicate (cell_count v) v) xs (and_first _ (each_in_range variables values) e) in
    ap₂ (λ n ns. n ∷ ns) (sym long ∙ length-replicate (cell_count v) v) (lengths-in_range variables values (and_second (in_ranges (replicate (cell_count v) v) xs) _ e))

pub in_one_list-in_range : (variables : List Variable) (values : List (List ℤ)) → each_in_range variables values ≡ true → in_ranges (cell_variables variables) (in_one_list values) ≡ true
in_one_list-in_range [] [] e = refl
in_one_list-in_range [] (xs ∷ values) e = cc
in_one_list-in_range (v ∷ variables) [] e = cc
in_one_list-in_range (v ∷ variables) (xs ∷ values) e =
    in_ranges-append (replicate (cell_count v) v) (cell_variables variables) xs (in_one_list values) (and_first _ (each_in_range variables values) e)
    (in_one_list-in_range variables values (and_second (in_ranges (replicate (cell_count v) v) xs) _ e))

-- ---- watched cells

each-there : (vs : List Variable) (s : State) (d : Variable) (v : ℕ) → each_in_range vs s ≡ true → v < length vs → in_ranges (replicate (cell_count (slice_index_or vs v d)) (slice_index_or vs v d)) (slice_index_or s v []) ≡ true
each-there [] s d v e below = absurd (omega (arith, below))
each-there (w ∷ vs) [] d v e below = cc
each-there (w ∷ vs) (xs ∷ s) d zero e below = and_first (in_ranges (replicate (cell_count w) w) xs) _ e
each-there (w ∷ vs) (xs ∷ s) d (suc v) e below = each-there vs s d v (and_second (in_ranges (replicate (cell_count w) w) xs) _ e) (omega (arith, below))

pub watched-in_range : (g : EventGraph) (s : State) (watch : List Watched) → IsTrue (in_range g s) → AllByRecursion (IsWatchable (length g.variables) (length g.vertices)) watch → each_in_range (variables_watched g watch) (watched_values watch s) ≡ true
watched-in_range g s [] inside there = refl
watched-in_range g s (WatchedVariable v ∷ watch) inside (here, there) =
    ap₂ (λ a b. a && b) (each-there g.variables s _ v inside here) (watched-in_range g s watch inside there)
watched-in_range g s (WatchedVertex v ∷ watch) inside (here, there) = watched-in_range g s watch inside there

there : (vs : List Variable) (d : Variable) (v : ℕ) → v < length vs → option_map_or cell_count (slice_get vs v) 0 ≡ cell_count (slice_index_or vs v d)
there [] d v below = absurd (omega (arith, below))
there (w ∷ vs) d zero below = refl
there (w ∷ vs) d (suc v) below = there vs d v (omega (arith, below))

pub sizes-declared : (g : EventGraph) (watch : List Watched) → AllByRecursion (IsWatchable (length g.variables) (length g.vertices)) watch → watched_sizes g watch ≡ map cell_count (variables_watched g watch)
sizes-declared g [] all = refl
sizes-declared g (WatchedVariable v ∷ watch) (here, all) = ap₂ (λ n ns. n ∷ ns) (there g.variables _ v here) (sizes-declared g watch all)
sizes-declared g (WatchedVertex v ∷ watch) (here, all) = sizes-declared g watch all
