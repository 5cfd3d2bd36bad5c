-- the text is put piece by piece
use Rattle.std.proofs.Common.{map}
use Rattle.model_core.specs.Code.Views.{graph_of, vertex_of}
use Rattle.model_core.specs.Rules.PlacedEdges.{with_place}
use Rattle.model_core.specs.Rules.Prune.{without_edge}
use Rattle.model_print.proofs.OneEdgeLess.{same_declarations, same_lines}
use Rattle.model_print.proofs.Putting.{put_as, three}
use Rattle.model_print.proofs.model_without_edge.put_model_without.Goals as goal

pub returns : goal.returns
returns g c =
    let was = graph_of c.args.model.now in
    let vertices = with_place (without_edge c.args.edge) c.args.vertex (map vertex_of c.args.model.now.vertices) in
    three g.met.P.Pen.both (put_as g.met.P.Pen.both _ (same_declarations was c.args.vertex c.args.edge) (rw c.needs_version_two_without_edge.ensures at c.put_declarations.ensures))
    (put_as g.met.P.Pen.both _ (same_lines was c.args.vertex c.args.edge vertices) (rw c.as_slice.ensures at c.put_vertices_without.ensures)) c.put_bytes.ensures
