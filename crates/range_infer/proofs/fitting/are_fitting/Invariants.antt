use Rattle.std.proofs.Common.{ℕ, ◌<◌}
use Rattle.model_core.specs.Code.Views.{graph_of}
use Rattle.model_core.specs.Ranges.OtherRanges.{range_at}
use Rattle.model_core.specs.Ranges.Inductive.{FitsVariable}
use Rattle.range_infer.proofs.fitting.are_fitting.Given as goal

abbrev pub invariant-loop-place : goal.invariant-loop-place
invariant-loop-place l = (k : ℕ) → k < l.place → FitsVariable (graph_of l.model) k (range_at l.ranges k)
