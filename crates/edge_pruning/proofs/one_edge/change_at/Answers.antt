-- The vertex at the place is changed, or there is none.
use Rattle.std.proofs.Common.{◌∙◌, refl, ap, map, List, arith}
use Rattle.model_core.specs.declared.vertex.Vertex.{Vertex}
use Rattle.model_core.specs.EventGraph.{EventVertex}
use Rattle.model_core.specs.Rules.PlacedEdges.{with_place}
use Rattle.edge_pruning.specs.Inner.OneEdge.{changed_by}
use Rattle.model_core.specs.Code.Views.{graph_of, vertex_of}
use Rattle.model_core.proofs.PlacesChanged.{map-set-with_place, with_place-beyond}
use Rattle.edge_pruning.proofs.one_edge.change_at.Goals as goal

pub returns-in-Some : goal.returns-in-Some
returns-in-Some c =
    ap (λ (vs : List EventVertex). record (graph_of c.args.model.now) { vertices = vs })
    (map-set-with_place vertex_of (changed_by c.args.rule c.args.edge) c.as_mut_vec.result.now.items c.args.vertex c.in-Some.vertex.now _ (omega (arith, c.as_mut_vec.result.now.ok.0, c.in-Some.ensures.variant.0 refl)) c.in-Some.ensures.value c.change.ensures
    ∙ ap (λ (vs : List Vertex). with_place (changed_by c.args.rule c.args.edge) c.args.vertex (map vertex_of vs)) c.as_mut_vec.ensures.shows)

pub returns-in_default : goal.returns-in_default
returns-in_default c =
    ap (λ (vs : List EventVertex). record (graph_of c.args.model.now) { vertices = vs })
    (with_place-beyond vertex_of (changed_by c.args.rule c.args.edge) c.as_mut_vec.result.now.items c.args.vertex (λ below. c.in_default.ensures.variant.1 (omega (arith, c.as_mut_vec.result.now.ok.0, below)))
    ∙ ap (λ (vs : List Vertex). with_place (changed_by c.args.rule c.args.edge) c.args.vertex (map vertex_of vs)) c.as_mut_vec.ensures.shows)
