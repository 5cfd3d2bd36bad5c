-- the invariant after one element more
use Rattle.sig_base.proofs.Lists.{seen_more}
use Rattle.model_core.specs.Text.Canonical.{vertex_lines}
use Rattle.model_core.specs.Code.Views.{vertex_of, graph_of}
use Rattle.model_print.proofs.Putting.{one_more_put}
use Rattle.model_print.proofs.vertices.put_vertices.Goals as goal

pub loop-vertex-preserved : goal.loop-vertex-preserved
loop-vertex-preserved g c = one_more_put g.met.P.Pen.both (vertex_lines (graph_of c.args.model.now)) _ _ _ (seen_more vertex_of _ c.loop-vertex.vertex-index c.vertex-item.result c.loop-vertex-test.true c.vertex-item.is) c.loop-vertex.invariant c.put_vertex.ensures
