use Rattle.std.proofs.Common.{map, take}
use Rattle.model_core.specs.Text.Canonical.{after_commas, expression_text}
use Rattle.model_core.specs.Code.Views.{expression_of, graph_of}
use Rattle.model_print.proofs.expressions.put_expressions.Given as goal

abbrev pub invariant-loop-expr : goal.invariant-loop-expr
invariant-loop-expr g l = g.P.Pen.adds l.initial.out l.out (after_commas (map (expression_text (graph_of l.model)) (map expression_of (take l.expr-index l.rest))))
