-- the invariant after one element more
use Rattle.sig_base.proofs.Lists.{seen_more}
use Rattle.model_core.specs.Text.Canonical.{change_line}
use Rattle.model_core.specs.Code.Views.{change_of, graph_of}
use Rattle.model_print.proofs.Putting.{one_more_put}
use Rattle.model_print.proofs.vertices.put_changes.Goals as goal

pub loop-change-preserved : goal.loop-change-preserved
loop-change-preserved g c = one_more_put g.met.P.Pen.both (change_line (graph_of c.args.model.now)) _ _ _ (seen_more change_of _ c.loop-change.change-index c.change-item.result c.loop-change-test.true c.change-item.is) c.loop-change.invariant c.put_change.ensures
