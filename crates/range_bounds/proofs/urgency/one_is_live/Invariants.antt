use Rattle.std.proofs.Common.{◌≡◌, map, drop}
use Rattle.std.specs.List.{list_any}
use Rattle.model_core.specs.Code.Views.{graph_of, edge_of}
use Rattle.range_bounds.specs.LiveEdges.{is_live}
use Rattle.range_bounds.proofs.urgency.one_is_live.Given as goal

abbrev pub invariant-loop-edge : goal.invariant-loop-edge
invariant-loop-edge l = list_any (is_live (graph_of l.model)) (map edge_of (drop l.edge-index l.edges)) ≡ list_any (is_live (graph_of l.model)) (map edge_of l.edges)
