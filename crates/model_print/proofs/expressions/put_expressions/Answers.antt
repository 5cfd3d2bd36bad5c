-- the invariant after one element more
use Rattle.sig_base.proofs.Lists.{seen_more}
use Rattle.model_core.specs.Text.Canonical.{expression_text}
use Rattle.model_core.specs.Code.Views.{expression_of, graph_of}
use Rattle.model_print.proofs.Putting.{one_more_after_comma}
use Rattle.model_print.proofs.expressions.put_expressions.Goals as goal

pub loop-expr-preserved : goal.loop-expr-preserved
loop-expr-preserved g c = one_more_after_comma g.met.P.Pen.both (expression_text (graph_of c.args.model.now)) _ _ _ (seen_more expression_of _ c.loop-expr.expr-index c.expr-item.result c.loop-expr-test.true c.expr-item.is) c.loop-expr.invariant c.put_comma.ensures c.put_expression-in-loop-expr.ensures

pub loop-expr-init : goal.loop-expr-init
loop-expr-init g c = g.met.P.Pen.nothing _
