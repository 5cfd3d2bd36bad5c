use Rattle.std.proofs.Common.{length}
use Rattle.range_infer.proofs.RestoredRanges.{PutBackTo}
use Rattle.range_infer.proofs.refinement.restore_ranges.Given as goal

abbrev pub invariant-loop-left : goal.invariant-loop-left
invariant-loop-left l = PutBackTo l.replaced l.initial.left l.left

abbrev pub decreases-loop-left : goal.decreases-loop-left
decreases-loop-left l = length l.left.replaced.items
