use Rattle.std.proofs.Common.{◌≡◌, ◌++◌, map, length, drop}
use Rattle.model_core.specs.Run.Value.{each, value_of}
use Rattle.model_core.specs.Code.Views.{graph_of, expression_of}
use Rattle.sig_expr.specs.Outcomes.{map_ok}
use Rattle.sig_expr.proofs.lists.put_values.Given as goal

abbrev pub invariant-loop-expr : goal.invariant-loop-expr
invariant-loop-expr g l = record {
  so_far : map_ok (λ later. l.values.items ++ later) (each (value_of (graph_of l.model) l.state l.clk) (map expression_of (drop l.expr-index l.exprs))) ≡ each (value_of (graph_of l.model) l.state l.clk) (map expression_of l.exprs);
  count : length l.values.items ≡ l.expr-index;
}
