-- the invariant after one element more
use Rattle.model_core.specs.Text.Canonical.{edge_line}
use Rattle.model_core.specs.Code.Views.{graph_of, edge_of}
use Rattle.model_print.proofs.OneEdgeLess.{more_but_one}
use Rattle.model_print.proofs.model_without_edge.put_edges_but.Goals as goal

pub loop-place-preserved : goal.loop-place-preserved
loop-place-preserved g c = more_but_one g.met.P.Pen.both edge_of (edge_line (graph_of c.args.model.now)) c.args.edges.now c.loop-place.place c.index-edges-place.result c.args.left_out c.loop-place-test.true c.index-edges-place.is c.loop-place.invariant c.put_edge_unless.ensures
