use Rattle.std.proofs.Common.{◌≡◌, map, drop}
use Rattle.model_core.specs.Code.Views.{graph_of, edge_of}
use Rattle.var_slicing.specs.Inner.Needing.{collected_of, with_edges}
use Rattle.var_slicing.proofs.needs.Needs.add_edges.Given as goal

abbrev pub invariant-loop-edge : goal.invariant-loop-edge
invariant-loop-edge l = with_edges (graph_of l.model) (map edge_of (drop l.edge-index l.edges)) (collected_of l.self) ≡ with_edges (graph_of l.model) (map edge_of l.edges) (collected_of l.initial.self)
