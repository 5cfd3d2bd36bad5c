use Rattle.std.proofs.Common.{◌≡◌, ℕ, ◌<◌}
use Rattle.model_core.specs.Ranges.OtherRanges.{range_at}
use Rattle.range_infer.proofs.moved_ranges.same_ranges.Given as goal

abbrev pub invariant-loop-place : goal.invariant-loop-place
invariant-loop-place l = (k : ℕ) → k < l.place → range_at l.a k ≡ range_at l.b k
