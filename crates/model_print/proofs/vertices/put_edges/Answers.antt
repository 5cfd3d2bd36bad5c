-- the invariant after one element more
use Rattle.sig_base.proofs.Lists.{seen_more}
use Rattle.model_core.specs.Text.Canonical.{edge_line}
use Rattle.model_core.specs.Code.Views.{edge_of, graph_of}
use Rattle.model_print.proofs.Putting.{one_more_put}
use Rattle.model_print.proofs.vertices.put_edges.Goals as goal

pub loop-edge-preserved : goal.loop-edge-preserved
loop-edge-preserved g c = one_more_put g.met.P.Pen.both (edge_line (graph_of c.args.model.now)) _ _ _ (seen_more edge_of _ c.loop-edge.edge-index c.edge-item.result c.loop-edge-test.true c.edge-item.is) c.loop-edge.invariant c.put_edge.ensures
