use Rattle.std.proofs.Common.{◌≡◌, ◌++◌, map, take}
use Rattle.model_core.specs.Text.Canonical.{after_commas, expression_texts}
use Rattle.model_core.specs.Code.Views.{graph_of, expression_of}
use Rattle.describe.proofs.phrases.put_later_expressions.Given as goal

abbrev pub invariant-loop-expr : goal.invariant-loop-expr
invariant-loop-expr l = l.out.items ≡ l.initial.out.items ++ after_commas (expression_texts (graph_of l.model) (map expression_of (take l.expr-index l.exprs)))
