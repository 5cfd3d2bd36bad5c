-- One more is written anew.
use Rattle.std.proofs.Common.{◌∙◌, ap, map, get_or, List}
use Rattle.model_core.specs.declared.vertex.Edge.{Edge}
use Rattle.model_core.specs.EventGraph.{EventEdge}
use Rattle.model_core.specs.Rules.Drop.{edge_renumbered}
use Rattle.model_core.specs.Code.Views.{vertex_of, edge_of}
use Rattle.mark_laws.proofs.WrittenAnew.{one_written, all_written}
use Rattle.marked_walks.proofs.renumbering.renumber_vertices.Goals as goal

pub loop-vertex-preserved : goal.loop-vertex-preserved
loop-vertex-preserved g c =
    let vertex = get_or c.loop-vertex.vertex-items c.loop-vertex.vertex-index c.vertex-item.result in
    let edges = c.renumber_edges.ensures ∙ ap (λ (es : List Edge). map (edge_renumbered (g.N.NewPlaces.moved c.args.places.now)) (map edge_of es)) c.as_mut_vec.ensures.shows in
    one_written c.loop-vertex.invariant _ _ c.loop-vertex-test.true (ap (λ (es : List EventEdge). record (vertex_of vertex) { edges = es }) edges)

pub returns : goal.returns
returns g c = all_written c.loop-vertex.invariant _ _ c.loop-vertex-test.false c.loop-vertex.auto.vertex-index-end c.args.vertices.now.ok.0 c.deref_mut-vertex-items.ensures.value
