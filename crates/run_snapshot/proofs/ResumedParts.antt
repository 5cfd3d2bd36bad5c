-- The parts of a good saved run are those of a run.
use Rattle.std.proofs.Common.{◌≡◌, ℕ, ◌+◌, ◌<◌, ℤ, true, ◌&&◌, List, [], ◌∷◌, length, map, take, drop, replicate, Option, Some, None, refl, sym, ap, ap₂, ◌∙◌, subst, arith, IsTrue, length-append}
use Rattle.std.specs.Prelude.{sum, IfSome}
use Rattle.std.specs.List.{AllByRecursion}
use Rattle.std.proofs.lemmas.List.{length-replicate, length-map}
use Rattle.std.proofs.lemmas.List.Sums.{sum_by-cons}
use lib.Pointwise.{pointwise_long}
use Rattle.model_core.specs.declared.model.Model.{Model}
use Rattle.model_core.specs.EventGraph.{EventGraph, Variable}
use Rattle.model_core.specs.Run.State.{cell_count, within, in_ranges, in_range}
use Rattle.model_core.specs.Run.Pending.{Entry}
use Rattle.model_core.specs.Code.Views.{graph_of, vertex_of}
use Rattle.model_core.specs.Static.OwnRules.{IsWatchable}
use Rattle.model_core.proofs.EachOne.{every-map}
use Rattle.model_core.specs.Saved.Cells.{cut_up, cell_variables, variables_watched}
use Rattle.model_core.specs.Saved.SavedRun.{IsGoodEntry}
use Rattle.model_core.proofs.RangesTogether.{split-ranges}
use Rattle.run_snapshot.specs.Inner.NotedValues.{FitWatched}
use Rattle.run_snapshot.proofs.CellLists.{each_in_range, sizes-declared}

-- ---- the state

cut-in_range : (vs : List Variable) (values : List ℤ) → in_ranges (cell_variables vs) values ≡ true → each_in_range vs (cut_up (map cell_count vs) values) ≡ true
cut-in_range [] values e = refl
cut-in_range (v ∷ vs) values e =
    let (here, later) = split-ranges (replicate (cell_count v) v) (cell_variables vs) values e in
    let n = length-replicate (cell_count v) v in
    ap₂ (λ a b. a && b) (ap (λ k. in_ranges (replicate (cell_count v) v) (take k values)) (sym n) ∙ here)
    (cut-in_range vs (drop (cell_count v) values) (ap (λ k. in_ranges (cell_variables vs) (drop k values)) (sym n) ∙ later))

pub state-in_range : (g : EventGraph) (values : List ℤ) → IsTrue (in_ranges (cell_variables g.variables) values) → IsTrue (in_range g (cut_up (map cell_count g.variables) values))
state-in_range g values inside = cut-in_range g.variables values inside

-- ---- the values of the last `at` note

length-cell_variables : (vs : List Variable) → length (cell_variables vs) ≡ sum (map cell_count vs)
length-cell_variables [] = refl
length-cell_variables (v ∷ vs) =
    length-append (replicate (cell_count v) v) (cell_variables vs) ∙ ap₂ (λ a b. a + b) (length-replicate (cell_count v) v) (length-cell_variables vs) ∙ sym (sum_by-cons (λ (x : ℕ). x) (cell_count v) (map cell_count vs))

pub noted-fit : (g : EventGraph) (o : Option (List ℤ)) → AllByRecursion (IsWatchable (length g.variables) (length g.vertices)) g.watch → IfSome o (λ values. IsTrue (in_ranges (cell_variables (variables_watched g g.watch)) values)) → FitWatched g o
noted-fit g None watch inside = tt
noted-fit g (Some values) watch inside =
    sym (pointwise_long (λ (v : Variable) (x : ℤ). within v.lo v.hi x) (cell_variables (variables_watched g g.watch)) values inside) ∙ length-cell_variables (variables_watched g g.watch) ∙ ap sum (sym (sizes-declared g g.watch watch))

-- ---- the pending events

pub entries-known : (m : Model) (clock : ℕ) (entries pending : List Entry) → entries ≡ pending → AllByRecursion (IsGoodEntry (graph_of m) clock) pending → AllByRecursion (λ (e : Entry). e.vertex < length m.vertices) entries
entries-known m clock entries pending same good =
    subst (λ (l : List Entry). AllByRecursion (λ (e : Entry). e.vertex < length m.vertices) l) (sym same)
    (every-map (IsGoodEntry (graph_of m) clock) (λ (e : Entry). e.vertex < length m.vertices) (λ e h. omega (arith, h.vertex, length-map m.vertices vertex_of)) pending good)
