use Rattle.std.proofs.Common.{◌≤◌, length}
use Rattle.model_read.proofs.openings.last_end.Given as goal

abbrev pub invariant-loop-place : goal.invariant-loop-place
invariant-loop-place l = (l.place ≤ l.limit) × (l.place ≤ length l.tokens)

abbrev pub decreases-loop-place : goal.decreases-loop-place
decreases-loop-place l = l.place
