use Rattle.std.proofs.Common.{map, take}
use Rattle.std.specs.List.{flat_map}
use Rattle.model_core.specs.Code.Views.{vertex_of}
use Rattle.model_core.specs.Conflicts.Priorities.{vertex_priorities}
use Rattle.conflict_report.specs.Inner.NumberHolders.{HoldMore}
use Rattle.conflict_report.proofs.priorities.note_vertices.Given as goal

abbrev pub invariant-loop-vertex : goal.invariant-loop-vertex
invariant-loop-vertex l = HoldMore (λ j. flat_map (vertex_priorities j) (map vertex_of (take l.vertex-index l.vertices))) l.initial.holders l.holders
