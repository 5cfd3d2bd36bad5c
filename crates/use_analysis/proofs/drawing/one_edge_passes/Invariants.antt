use Rattle.std.proofs.Common.{◌≡◌, map, drop}
use Rattle.std.specs.List.{list_any, flat_map}
use Rattle.model_core.specs.Rules.Uses.{edge_streams}
use Rattle.model_core.specs.Code.Views.{edge_of}
use Rattle.use_analysis.proofs.drawing.one_edge_passes.Given as goal

abbrev pub invariant-loop-edge : goal.invariant-loop-edge
invariant-loop-edge g l =
    list_any (g.T.NumberTest.test l.test) (flat_map edge_streams (map edge_of (drop l.edge-index l.edges)))
    ≡ list_any (g.T.NumberTest.test l.test) (flat_map edge_streams (map edge_of l.edges))
