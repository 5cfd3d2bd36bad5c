use Rattle.std.proofs.Common.{◌≡◌, ◌+◌, ◌*◌, ◌≤◌, length}
use Rattle.model_core.specs.Code.WrittenViews.{written_expression}
use Rattle.text_laws.specs.Ladder.{climb}
use Rattle.model_read.proofs.expressions.+expressions.Given as goal

abbrev pub decreases-expression : goal.decreases-expression
decreases-expression l = length l.cursor.now * 32 + 20

abbrev pub decreases-conditional : goal.decreases-conditional
decreases-conditional l = length l.cursor.now * 32 + 18

abbrev pub decreases-operand : goal.decreases-operand
decreases-operand l = length l.cursor.now * 32 + 16

abbrev pub decreases-branches : goal.decreases-branches
decreases-branches l = length l.cursor.now * 32 + 17

abbrev pub decreases-negation : goal.decreases-negation
decreases-negation l = length l.cursor.now * 32 + 15

abbrev pub decreases-negative : goal.decreases-negative
decreases-negative l = length l.cursor.now * 32 + 9

abbrev pub decreases-bracketed : goal.decreases-bracketed
decreases-bracketed l = length l.cursor.now * 32 + 1

abbrev pub decreases-cell : goal.decreases-cell
decreases-cell l = length l.cursor.now * 32 + 2

abbrev pub decreases-others : goal.decreases-others
decreases-others l = length l.cursor.now * 32 + 31

abbrev pub decreases-negated : goal.decreases-negated
decreases-negated l = length l.cursor.now * 32 + 14

abbrev pub decreases-unary : goal.decreases-unary
decreases-unary l = length l.cursor.now * 32 + 12

abbrev pub decreases-signed : goal.decreases-signed
decreases-signed l = length l.cursor.now * 32 + 10

abbrev pub decreases-primary : goal.decreases-primary
decreases-primary l = length l.cursor.now * 32 + 8

abbrev pub decreases-undivided : goal.decreases-undivided
decreases-undivided l = length l.cursor.now * 32 + 6

abbrev pub decreases-called : goal.decreases-called
decreases-called l = length l.cursor.now * 32 + 1

abbrev pub decreases-variable : goal.decreases-variable
decreases-variable l = length l.cursor.now * 32 + 1

abbrev pub decreases-enclosed : goal.decreases-enclosed
decreases-enclosed l = length l.cursor.now * 32 + 1

abbrev pub decreases-others-loop-infix : goal.decreases-others-loop-infix
decreases-others-loop-infix l = length l.cursor

abbrev pub invariant-others-loop-infix : goal.invariant-others-loop-infix
invariant-others-loop-infix l = record {
  no_longer : length l.cursor ≤ length l.fn.cursor;
  reads : climb l.under l.least (written_expression l.left) l.cursor ≡ climb l.fn.under l.fn.least (written_expression l.fn.first) l.fn.cursor;
}
