-- One more is walked after those before it.
use Rattle.model_core.specs.Rules.Uses.{variables_in}
use Rattle.model_core.specs.Code.Views.{expression_of}
use Rattle.use_analysis.proofs.MovedNumbers.{walked_more}
use Rattle.use_analysis.proofs.moving.move_in_all.Goals as goal

pub loop-expr-preserved : goal.loop-expr-preserved
loop-expr-preserved c = walked_more expression_of variables_in c.args.part _ c.loop-expr.expr-index c.expr-item.result _ _ _ c.loop-expr-test.true c.expr-item.is c.move_in.ensures c.loop-expr.invariant
