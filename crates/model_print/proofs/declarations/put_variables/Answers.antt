-- the invariant after one element more
use Rattle.sig_base.proofs.Lists.{seen_more}
use Rattle.model_core.specs.Text.Canonical.{variable_line}
use Rattle.model_core.specs.Code.Views.{variable_of}
use Rattle.model_print.proofs.Putting.{one_more_put}
use Rattle.model_print.proofs.declarations.put_variables.Goals as goal

pub loop-var-preserved : goal.loop-var-preserved
loop-var-preserved g c = one_more_put g.met.P.Pen.both variable_line _ _ _ (seen_more variable_of _ c.loop-var.var-index c.var-item.result c.loop-var-test.true c.var-item.is) c.loop-var.invariant c.put_variable.ensures
