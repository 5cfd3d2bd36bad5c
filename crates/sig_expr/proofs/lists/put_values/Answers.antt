use Rattle.std.proofs.Common.{arith}
use Rattle.model_core.specs.Code.Views.{graph_of, expression_of}
use Rattle.sig_expr.specs.Possible.{PossibleExpression}
use Rattle.sig_base.proofs.Lists.{holds_of_each}
use Rattle.sig_expr.proofs.lists.put_values.Goals as goal

pub value-requires-clause-possible : goal.value-requires-clause-possible
value-requires-clause-possible g c = holds_of_each (PossibleExpression (graph_of c.args.model.now)) expression_of c.args.exprs.now c.loop-expr.expr-index c.expr-item.result c.requires.possible (omega arith) c.expr-item.is
