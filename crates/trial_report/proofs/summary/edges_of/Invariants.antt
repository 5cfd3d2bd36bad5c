use Rattle.std.proofs.Common.{◌≡◌, ◌^◌, ◌-◌, length, map, min, take}
use Rattle.std.specs.List.{sum_by}
use Rattle.model_core.specs.EventGraph.{EventVertex}
use Rattle.model_core.specs.Code.Views.{vertex_of}
use Rattle.trial_report.proofs.summary.edges_of.Given as goal

abbrev pub invariant-loop-vertex : goal.invariant-loop-vertex
invariant-loop-vertex l = l.edges ≡ min (sum_by (λ (v : EventVertex). length v.edges) (map vertex_of (take l.vertex-index l.vertices))) (2 ^ 64 - 1)
