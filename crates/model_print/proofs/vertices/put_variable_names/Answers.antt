-- the invariant after one element more
use Rattle.std.proofs.lemmas.List.{take_more}
use Rattle.model_core.specs.Text.Canonical.{variable_name}
use Rattle.model_core.specs.Code.Views.{graph_of}
use Rattle.model_print.proofs.Putting.{one_more_after_comma}
use Rattle.model_print.proofs.vertices.put_variable_names.Goals as goal

pub loop-var-preserved : goal.loop-var-preserved
loop-var-preserved g c = one_more_after_comma g.met.P.Pen.both (variable_name (graph_of c.args.model.now)) _ _ _ (take_more _ c.loop-var.var-index 0 c.loop-var-test.true) c.loop-var.invariant c.put_comma.ensures c.put_variable_name-in-loop-var.ensures

pub loop-var-init : goal.loop-var-init
loop-var-init g c = g.met.P.Pen.nothing _
