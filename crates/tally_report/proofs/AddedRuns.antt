-- Runs that are added to totals, one after the other.
use Rattle.std.proofs.Common.{◌≡◌, ℕ, ◌+◌, ◌*◌, ◌≤◌, List, [], ◌∷◌, ◌++◌, length, All, refl, subst, arith}
use Rattle.std.specs.Prelude.{ℤ}
use Rattle.std.proofs.lemmas.Int.{ints}
use Rattle.std.proofs.lemmas.List.Elements.{All-tail}
use Rattle.sig_base.specs.declared.limits.TheConstants.{STOP_MAX}
use mir.Syntax.{w128}
use mir.Val.{SFits}
use Rattle.model_core.specs.EventGraph.{EventGraph}
use Rattle.tally_report.specs.declared.run_tally.RunTally.{RunTally}
use Rattle.tally_report.specs.SmallAreas.{IsSmallArea, IsOfRuns}
use Rattle.tally_report.specs.Totalling.{RunTotals, with_run, no_totals, totals_from, totals_of}
use Rattle.tally_report.proofs.AddedItems.{all-added, head-all}
use Rattle.tally_report.proofs.FirstTotals.{of_no_run}

pub added_last : (t : RunTotals) (runs : List RunTally) (run : RunTally) → totals_from t (runs ++ run ∷ []) ≡ with_run (totals_from t runs) run
added_last t [] run = refl
added_last t (first ∷ runs) run = added_last (with_run t first) runs run

small-from : (n m : ℕ) (t : RunTotals) (runs : List RunTally) → m ≡ n + length runs → All (IsOfRuns n) t.items → All (λ (r : RunTally). All (IsOfRuns 1) r.items) runs → All (IsOfRuns m) (totals_from t runs).items
small-from n m t [] is small all = subst (λ (k : ℕ). All (IsOfRuns k) t.items) (let e : n ≡ m = omega (arith, is) in e) small
small-from n m t (run ∷ runs) is small all =
    small-from (n + 1) m (with_run t run) runs (omega (arith, is)) (all-added n t.items run.items small (head-all (λ (r : RunTally). All (IsOfRuns 1) r.items) run runs all))
    (All-tail (λ (r : RunTally). All (IsOfRuns 1) r.items) run runs all)

pub small_totals : (g : EventGraph) (runs : List RunTally) → All (λ (r : RunTally). All (IsOfRuns 1) r.items) runs → All (IsOfRuns (length runs)) (totals_of g runs).items
small_totals g runs all = small-from 0 (length runs) (no_totals g) runs (omega arith) (of_no_run g) all

pub area_fits : (runs : ℕ) (area : ℤ) → runs ≤ 65536 → IsSmallArea (STOP_MAX * runs) area → SFits w128 area
area_fits runs area few small = omega (arith, ints, small.above, small.below, few)
