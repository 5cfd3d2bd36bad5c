use Rattle.std.proofs.Common.{◌≡◌, map, drop}
use Rattle.std.specs.List.{list_any, flat_map}
use Rattle.model_core.specs.Code.Views.{vertex_of}
use Rattle.model_core.specs.Conflicts.Priorities.{vertex_priorities}
use Rattle.conflict_report.proofs.meeting.one_vertex_passes.Given as goal

abbrev pub invariant-loop-from : goal.invariant-loop-from
invariant-loop-from g l =
    list_any (g.T.NumberTest.test l.test) (flat_map (vertex_priorities l.vertex) (map vertex_of (drop l.from-index l.vertices)))
    ≡ list_any (g.T.NumberTest.test l.test) (flat_map (vertex_priorities l.vertex) (map vertex_of l.vertices))
