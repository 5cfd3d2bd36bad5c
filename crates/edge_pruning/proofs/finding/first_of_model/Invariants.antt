use Rattle.std.proofs.Common.{◌≡◌, map, drop}
use Rattle.model_core.specs.Rules.PlacedEdges.{first_edge}
use Rattle.model_core.specs.Code.Views.{graph_of, vertex_of}
use Rattle.edge_pruning.specs.EdgeRules.{edge_test}
use Rattle.edge_pruning.proofs.finding.first_of_model.Given as goal

abbrev pub invariant-loop-place : goal.invariant-loop-place
invariant-loop-place l =
    first_edge (edge_test l.rule (graph_of l.model)) l.place (map vertex_of (drop l.place l.model.vertices)) ≡ first_edge (edge_test l.rule (graph_of l.model)) 0 (map vertex_of l.model.vertices)
