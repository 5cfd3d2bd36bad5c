use Rattle.std.proofs.Common.{◌≡◌, ℕ, ◌<◌, ◌≤◌, ◌-◌, false, length}
use Rattle.model_core.specs.Code.Views.{graph_of}
use Rattle.twin_rules.specs.Inner.ComparedPairs.{are_alike}
use Rattle.twin_rules.proofs.later_candidates.next_candidate.Given as goal

abbrev pub invariant-loop-gone : goal.invariant-loop-gone
invariant-loop-gone l = record {
  at_least : l.from ≤ l.gone;
  passed : (y : ℕ) → l.from ≤ y → y < l.gone → are_alike (graph_of l.model) l.keep y ≡ false;
}

abbrev pub decreases-loop-gone : goal.decreases-loop-gone
decreases-loop-gone l = length l.model.vertices - l.gone
