use Rattle.std.proofs.Common.{◌≡◌, ℕ, ◌<◌, ◌-◌, true, false, length}
use Rattle.model_core.specs.Rules.Fuse.{are_twins, first_twin_of}
use Rattle.model_core.specs.Code.Views.{graph_of}
use Rattle.twin_rules.specs.Inner.ComparedPairs.{are_alike}
use Rattle.twin_rules.proofs.FirstFound.{first_passing}
use Rattle.twin_rules.proofs.first_pair.first_twin_of.Given as goal

abbrev pub invariant-loop-gone : goal.invariant-loop-gone
invariant-loop-gone l = record {
  found : first_passing (are_twins (graph_of l.model) l.keep) l.gone (length l.model.vertices) ≡ first_twin_of (graph_of l.model) l.keep;
  none_alike : l.none_alike ≡ true → (l.initial.none_alike ≡ true) × ((y : ℕ) → y < l.gone → are_alike (graph_of l.model) l.keep y ≡ false);
}

abbrev pub decreases-loop-gone : goal.decreases-loop-gone
decreases-loop-gone l = length l.model.vertices - l.gone
