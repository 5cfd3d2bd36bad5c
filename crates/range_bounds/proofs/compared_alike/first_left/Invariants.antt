use Rattle.std.proofs.Common.{◌≡◌, map, drop}
use Rattle.model_core.specs.Code.Views.{graph_of, edge_of}
use Rattle.range_bounds.specs.Inner.ComparedAlike.{live_conditions, first_left}
use Rattle.range_bounds.proofs.compared_alike.first_left.Given as goal

-- no edge so far is live
abbrev pub invariant-loop-edge : goal.invariant-loop-edge
invariant-loop-edge l = first_left (live_conditions (graph_of l.model) (map edge_of (drop l.edge-index l.edges))) ≡ first_left (live_conditions (graph_of l.model) (map edge_of l.edges))
