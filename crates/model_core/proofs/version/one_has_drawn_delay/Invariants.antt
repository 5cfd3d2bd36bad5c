use Rattle.std.proofs.Common.{◌≡◌, map, drop}
use Rattle.std.specs.List.{list_any}
use Rattle.model_core.specs.EventGraph.{has_drawn_delay}
use Rattle.model_core.specs.Code.Views.{edge_of}
use Rattle.model_core.proofs.version.one_has_drawn_delay.Given as goal

abbrev pub invariant-loop-edge : goal.invariant-loop-edge
invariant-loop-edge l =
    list_any has_drawn_delay (map edge_of (drop l.edge-index l.edges))
    ≡ list_any has_drawn_delay (map edge_of l.edges)
