use Rattle.std.proofs.Common.{ℕ, ◌<◌}
use Rattle.model_core.specs.Run.State.{variable_at}
use Rattle.model_core.specs.Code.Views.{graph_of}
use Rattle.model_core.specs.Ranges.OtherRanges.{LiesIn, range_at}
use Rattle.range_infer.proofs.checking.first_wrong_start.Given as goal

abbrev pub invariant-loop-place : goal.invariant-loop-place
invariant-loop-place l = (k : ℕ) → k < l.place → LiesIn (range_at l.ranges k) (variable_at (graph_of l.model) k).initial
