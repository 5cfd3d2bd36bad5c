use Rattle.std.proofs.Common.{◌≡◌, map, drop}
use Rattle.std.specs.List.{list_any, flat_map}
use Rattle.model_core.specs.Code.Views.{edge_of}
use Rattle.model_core.specs.Conflicts.Priorities.{edge_priorities}
use Rattle.conflict_report.proofs.meeting.one_edge_passes.Given as goal

abbrev pub invariant-loop-edge : goal.invariant-loop-edge
invariant-loop-edge g l =
    list_any (g.T.NumberTest.test l.test) (flat_map (edge_priorities l.vertex) (map edge_of (drop l.edge-index l.edges)))
    ≡ list_any (g.T.NumberTest.test l.test) (flat_map (edge_priorities l.vertex) (map edge_of l.edges))
