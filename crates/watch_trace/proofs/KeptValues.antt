-- The values of what is watched, in one list.
use Rattle.std.proofs.Common.{◌≡◌, ℕ, zero, suc, ◌+◌, ℤ, Bool, not, ◌||◌, cond, Some, None, List, [], ◌∷◌, ◌++◌, map, length, slice_index_or, refl, sym, ap, ap₂, ◌∙◌, arith, IsTrue, true, false}
use Rattle.std.specs.Prelude.{slice_get, replicate}
use Rattle.std.specs.List.{flat_map, sum_by}
use Rattle.std.specs.Prelude.{sum}
use Rattle.std.specs.Option.{option_map_or}
use Rattle.std.proofs.lemmas.List.{length-replicate}
use Rattle.std.proofs.lemmas.List.Sums.{sum_by-cons}
use lib.Pointwise.{pointwise, pointwise_long}
use Rattle.model_core.specs.EventGraph.{EventGraph, Variable, Watched, WatchedVariable, WatchedVertex}
use Rattle.model_core.specs.Run.State.{State, within, cell_count, cells_of, in_ranges, in_range}
use Rattle.model_core.specs.Run.Pending.{same_values}
use Rattle.model_core.specs.Run.History.{watched_values}
use Rattle.model_core.proofs.BothTrue.{and_first, and_second}
use Rattle.model_core.specs.Saved.Cells.{cells_declared, watched_sizes, cut_up, in_one_list}
use Rattle.watch_trace.specs.Tracing.{is_new}
use Rattle.sig_expr.specs.WatchedValues.{values_watched}
use Rattle.watch_trace.specs.Inner.KeptNotes.{watched_size}
use Rattle.run_laws.proofs.CutUp.{cut_up-in_one_list, in_one_list-cut_up, lengths-cut_up, length-in_one_list, same-in_one_list}

pub items-in_one_list : (s : State) (watch : List Watched) → flat_map (values_watched s) watch ≡ in_one_list (watched_values watch s)
items-in_one_list s [] = refl
items-in_one_list s (WatchedVariable v ∷ watch) = ap (λ l. cells_of s v ++ l) (items-in_one_list s watch)
items-in_one_list s (WatchedVertex v ∷ watch) = items-in_one_list s watch

pub sizes-together : (g : EventGraph) (watch : List Watched) → sum (watched_sizes g watch) ≡ sum_by (watched_size g) watch
sizes-together g [] = refl
sizes-together g (WatchedVariable v ∷ watch) =
    sum_by-cons (λ (x : ℕ). x) (cells_declared g v) (watched_sizes g watch) ∙ ap (λ n. cells_declared g v + n) (sizes-together g watch) ∙ sym (sum_by-cons (watched_size g) (WatchedVariable v) watch)
sizes-together g (WatchedVertex v ∷ watch) =
    let none : 0 + sum_by (watched_size g) watch ≡ sum_by (watched_size g) watch = omega arith in
    sizes-together g watch ∙ sym none ∙ sym (sum_by-cons (watched_size g) (WatchedVertex v) watch)

-- a state in range has as many values of a variable as it declares
cells-declared : (vs : List Variable) (s : State) (v : ℕ) → pointwise (λ (v : Variable) (values : List ℤ). in_ranges (replicate (cell_count v) v) values) vs s ≡ true → length (slice_index_or s v []) ≡ option_map_or cell_count (slice_get vs v) 0
cells-declared [] [] v inside = refl
cells-declared [] (xs ∷ s) v inside = cc
cells-declared (w ∷ vs) [] v inside = cc
cells-declared (w ∷ vs) (xs ∷ s) zero inside =
    sym (pointwise_long (λ (v : Variable) (x : ℤ). within v.lo v.hi x) (replicate (cell_count w) w) xs (and_first (in_ranges (replicate (cell_count w) w) xs) _ inside)) ∙ length-replicate (cell_count w) w
cells-declared (w ∷ vs) (xs ∷ s) (suc v) inside = cells-declared vs s v (and_second (in_ranges (replicate (cell_count w) w) xs) _ inside)

pub lengths-watched : (g : EventGraph) (s : State) (watch : List Watched) → IsTrue (in_range g s) → map (λ values. length values) (watched_values watch s) ≡ watched_sizes g watch
lengths-watched g s [] inside = refl
lengths-watched g s (WatchedVariable v ∷ watch) inside = ap₂ (λ n ns. n ∷ ns) (cells-declared g.variables s v inside) (lengths-watched g s watch inside)
lengths-watched g s (WatchedVertex v ∷ watch) inside = lengths-watched g s watch inside

-- as many values as there is room for
pub watched-fit : (g : EventGraph) (s : State) (watch : List Watched) → IsTrue (in_range g s) → length (flat_map (values_watched s) watch) ≡ sum_by (watched_size g) watch
watched-fit g s watch inside =
    ap length (items-in_one_list s watch) ∙ length-in_one_list (watched_values watch s) ∙ ap sum (lengths-watched g s watch inside) ∙ sizes-together g watch

-- once taken, they are the watched values of the state
pub values_taken : (g : EventGraph) (s : State) (watch : List Watched) → IsTrue (in_range g s) → cut_up (watched_sizes g watch) (flat_map (values_watched s) watch) ≡ watched_values watch s
values_taken g s watch inside =
    ap₂ cut_up (sym (lengths-watched g s watch inside)) (items-in_one_list s watch) ∙ cut_up-in_one_list (watched_values watch s)

-- they are compared as one list
pub values_same : (g : EventGraph) (s : State) (watch : List Watched) (values : List ℤ) → IsTrue (in_range g s) → length values ≡ sum_by (watched_size g) watch → same_values values (flat_map (values_watched s) watch) ≡ pointwise same_values (cut_up (watched_sizes g watch) values) (watched_values watch s)
values_same g s watch values inside long =
    let all : sum (watched_sizes g watch) ≡ length values = sizes-together g watch ∙ sym long in
    ap₂ same_values (sym (in_one_list-cut_up (watched_sizes g watch) values all)) (items-in_one_list s watch)
    ∙ sym (same-in_one_list (cut_up (watched_sizes g watch) values) (watched_values watch s) (lengths-cut_up (watched_sizes g watch) values all ∙ sym (lengths-watched g s watch inside)))

-- values are new where none are noted, or where those noted last aren't the same
pub new_if_kept : (noted : Bool) (last values : List (List ℤ)) (other : Bool) → other ≡ not (pointwise same_values last values) → (not noted || other) ≡ is_new values (cond noted (Some last) None)
new_if_kept true last values other e = e
new_if_kept false last values other e = refl
