use Rattle.std.proofs.Common.{◌≡◌, drop}
use Rattle.model_core.specs.Rules.UrgentEdges.{each_pair}
use Rattle.range_bounds.specs.Inner.ComparedAlike.{never_both}
use Rattle.range_bounds.proofs.compared_alike.all_are_apart.Given as goal

abbrev pub invariant-loop-place : goal.invariant-loop-place
invariant-loop-place l = each_pair never_both (drop l.place l.all) ≡ each_pair never_both l.all
