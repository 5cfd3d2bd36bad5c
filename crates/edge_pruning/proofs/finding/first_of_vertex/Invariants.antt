use Rattle.std.proofs.Common.{◌≡◌, map, drop}
use Rattle.std.specs.List.{position_from}
use Rattle.model_core.specs.Code.Views.{graph_of, edge_of}
use Rattle.edge_pruning.specs.EdgeRules.{edge_test}
use Rattle.edge_pruning.proofs.finding.first_of_vertex.Given as goal

abbrev pub invariant-loop-place : goal.invariant-loop-place
invariant-loop-place l =
    position_from (edge_test l.rule (graph_of l.model)) l.place (map edge_of (drop l.place l.vertex.edges)) ≡ position_from (edge_test l.rule (graph_of l.model)) 0 (map edge_of l.vertex.edges)
