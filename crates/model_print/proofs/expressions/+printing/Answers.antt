-- the text is put piece by piece
use Rattle.std.proofs.Common.{rules, sym, ◌∙◌}
use Rattle.std.specs.Prelude.{codes}
use Rattle.model_core.specs.Text.Canonical.{operator_text}
use Rattle.model_core.specs.Code.Views.{operator_of}
use Rattle.model_print.proofs.WrittenOperators.{before_both, between, put_at_once}
use Rattle.model_print.proofs.Putting.{put_as, three, four, five, six}
use Rattle.model_print.proofs.expressions.+printing.Goals as goal

pub put_expression-returns-in-Cell : goal.put_expression-returns-in-Cell
put_expression-returns-in-Cell g t c = rw (c.in-Cell.is, ← c.deref.ensures) (four g.met.P.Pen.both c.put_variable_name-in-Cell.ensures c.put_bytes-in-Cell.ensures c.put_expression.ensures c.put_bytes-in-Cell-2.ensures)

pub put_expression-returns-then-operator_level-eq-CALL_LEVEL : goal.put_expression-returns-then-operator_level-eq-CALL_LEVEL
put_expression-returns-then-operator_level-eq-CALL_LEVEL g t c = rw (c.in-Binary.is, before_both _ _ _ _ (operator_of c.in-Binary.op) (sym c.operator_level.ensures ∙ c.if-operator_level-eq-CALL_LEVEL.true), ← c.deref-then-operator_level-eq-CALL_LEVEL.ensures, ← c.deref-then-operator_level-eq-CALL_LEVEL-2.ensures) (five g.met.P.Pen.both c.put_call.ensures c.put_expression-then-operator_level-eq-CALL_LEVEL.ensures c.put_comma.ensures c.put_expression-then-operator_level-eq-CALL_LEVEL-2.ensures c.put_bytes-then-operator_level-eq-CALL_LEVEL.ensures)

pub put_expression-returns-else-operator_level-eq-CALL_LEVEL : goal.put_expression-returns-else-operator_level-eq-CALL_LEVEL
put_expression-returns-else-operator_level-eq-CALL_LEVEL g t c = rw (c.in-Binary.is, between _ _ _ _ (operator_of c.in-Binary.op) (λ e. c.if-operator_level-eq-CALL_LEVEL.false (c.operator_level.ensures ∙ e)), ← c.left_operand_level.ensures, ← c.right_operand_level.ensures, ← c.deref-else-operator_level-eq-CALL_LEVEL.ensures, ← c.deref-else-operator_level-eq-CALL_LEVEL-2.ensures) (put_as g.met.P.Pen.both _ (put_at_once _ (codes " ") (operator_text (operator_of c.in-Binary.op)) _) (three g.met.P.Pen.both c.put_operand.ensures c.put_infix.ensures c.put_operand-else-operator_level-eq-CALL_LEVEL.ensures))

pub put_expression-returns-in-If : goal.put_expression-returns-in-If
put_expression-returns-in-If g t c = rw (c.in-If.is, ← c.deref-in-If.ensures, ← c.deref-in-If-2.ensures, ← c.deref-in-If-3.ensures) (six g.met.P.Pen.both c.put_bytes-in-If.ensures c.put_expression-in-If.ensures c.put_bytes-in-If-2.ensures c.put_expression-in-If-2.ensures c.put_bytes-in-If-3.ensures c.put_expression-in-If-3.ensures)

pub put_operand-returns-then-level-asked : goal.put_operand-returns-then-level-asked
put_operand-returns-then-level-asked g t c = put_as g.met.P.Pen.both _ (search rules) (three g.met.P.Pen.both c.put_bytes.ensures c.put_expression.ensures c.put_bytes-then-level-asked.ensures)
