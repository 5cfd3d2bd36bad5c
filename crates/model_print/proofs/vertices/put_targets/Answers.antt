-- the invariant after one element more
use Rattle.sig_base.proofs.Lists.{seen_more}
use Rattle.model_core.specs.Text.Canonical.{location_text}
use Rattle.model_core.specs.Code.Views.{location_of, graph_of}
use Rattle.model_print.proofs.Putting.{one_more_after_comma}
use Rattle.model_print.proofs.vertices.put_targets.Goals as goal

pub loop-target-preserved : goal.loop-target-preserved
loop-target-preserved g c = one_more_after_comma g.met.P.Pen.both (location_text (graph_of c.args.model.now)) _ _ _ (seen_more location_of _ c.loop-target.target-index c.target-item.result c.loop-target-test.true c.target-item.is) c.loop-target.invariant c.put_comma.ensures c.put_target-in-loop-target.ensures

pub loop-target-init : goal.loop-target-init
loop-target-init g c = g.met.P.Pen.nothing _
