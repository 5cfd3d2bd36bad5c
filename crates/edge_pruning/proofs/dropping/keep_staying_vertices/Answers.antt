-- Watch list and vertices are renumbered; then the vertices that stay are kept.
use Rattle.std.proofs.Common.{◌≡◌, ◌∙◌, List, sym, ap, ap₂, map}
use Rattle.model_core.specs.declared.vertex.Vertex.{Vertex}
use Rattle.model_core.specs.declared.model.Watch.{Watch}
use Rattle.model_core.specs.EventGraph.{EventVertex, Watched}
use Rattle.model_core.specs.Rules.MarkedPlaces.{rank, marked_of}
use Rattle.model_core.specs.Rules.Drop.{vertex_renumbered, watched_renumbered}
use Rattle.model_core.specs.Code.Views.{graph_of, vertex_of, watched_of}
use Rattle.mark_laws.proofs.MarkedItems.{marked_of-map}
use Rattle.edge_pruning.proofs.dropping.keep_staying_vertices.Goals as goal

pub returns : goal.returns
returns c =
    let marks = c.args.staying.now in
    let watch : map watched_of c.renumber_watch.new.watch.items ≡ map (watched_renumbered (rank marks)) (map watched_of c.args.model.now.watch) =
    c.renumber_watch.ensures ∙ ap (λ (ws : List Watch). map (watched_renumbered (rank marks)) (map watched_of ws)) c.as_mut_vec.ensures.shows in
    let moved : map vertex_of c.renumber_vertices.new.vertices.items ≡ map (vertex_renumbered (rank marks)) (map vertex_of c.args.model.now.vertices) =
    c.renumber_vertices.ensures ∙ ap (λ (vs : List Vertex). map (vertex_renumbered (rank marks)) (map vertex_of vs)) c.as_mut_vec-2.ensures.shows in
    let kept : map vertex_of c.keep_staying.new.items.items ≡ map (vertex_renumbered (rank marks)) (marked_of marks (map vertex_of c.args.model.now.vertices)) =
    ap (map vertex_of) (c.keep_staying.ensures ∙ ap (marked_of marks) c.as_mut_vec-3.ensures.shows)
    ∙ sym (marked_of-map vertex_of marks c.renumber_vertices.new.vertices.items)
    ∙ ap (marked_of marks) moved
    ∙ marked_of-map (vertex_renumbered (rank marks)) marks (map vertex_of c.args.model.now.vertices) in
    ap₂ (λ (ws : List Watched) (vs : List EventVertex). record (graph_of c.args.model.now) { watch = ws; vertices = vs }) watch kept
