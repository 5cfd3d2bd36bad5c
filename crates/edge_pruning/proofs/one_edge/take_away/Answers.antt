-- The edge is removed from the vertex's edges.
use Rattle.std.proofs.Common.{◌∙◌, ap, map, List}
use Rattle.std.specs.List.{remove}
use Rattle.model_core.specs.declared.vertex.Edge.{Edge}
use Rattle.model_core.specs.EventGraph.{EventEdge}
use Rattle.model_core.specs.Code.Views.{vertex_of, edge_of}
use Rattle.model_core.proofs.Images.{map-remove}
use Rattle.edge_pruning.proofs.one_edge.take_away.Goals as goal

pub returns-then-edge-len : goal.returns-then-edge-len
returns-then-edge-len c =
    ap (λ (es : List EventEdge). record (vertex_of c.args.vertex.now) { edges = es })
    (ap (map edge_of) (c.remove.ensures.items ∙ ap (λ (es : List Edge). remove es c.args.edge) c.as_mut_vec-edges.ensures.shows) ∙ map-remove edge_of c.args.vertex.now.edges c.args.edge)
