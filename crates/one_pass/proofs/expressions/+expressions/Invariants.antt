use Rattle.std.proofs.Common.{◌+◌, ◌*◌, ◌≤◌, ℕ, List, Some, length}
use Rattle.std.specs.Option.{option_map, IfSome}
use Rattle.model_core.specs.Text.Lexing.{Lexeme}
use Rattle.model_core.specs.Text.Written.{WrittenExpression}
use Rattle.model_core.specs.Code.Views.{expression_of}
use Rattle.model_core.specs.Static.Meanings.{meaning_of}
use Rattle.text_laws.specs.Ladder.{climb}
use Rattle.model_read.specs.Infixes.{infix_of}
use Rattle.one_pass.specs.Inner.ReadOperands.{IsOperand}
use Rattle.one_pass.proofs.OperandsInTurn.{IsTaken, ClimbedTo}
use Rattle.one_pass.proofs.expressions.+expressions.Given as goal

abbrev pub decreases-expression : goal.decreases-expression
decreases-expression l = length l.cursor.now * 32 + 20

abbrev pub decreases-conditional : goal.decreases-conditional
decreases-conditional l = length l.cursor.now * 32 + 18

abbrev pub decreases-signed : goal.decreases-signed
decreases-signed l = length l.cursor.now * 32 + 10

abbrev pub decreases-undivided : goal.decreases-undivided
decreases-undivided l = length l.cursor.now * 32 + 6

abbrev pub decreases-operand_under : goal.decreases-operand_under
decreases-operand_under l = length l.cursor.now * 32 + 16

abbrev pub decreases-first_operand : goal.decreases-first_operand
decreases-first_operand l = length l.cursor.now * 32 + 15

abbrev pub decreases-branches : goal.decreases-branches
decreases-branches l = length l.cursor.now * 32 + 17

abbrev pub decreases-negative : goal.decreases-negative
decreases-negative l = length l.cursor.now * 32 + 9

abbrev pub decreases-bracketed : goal.decreases-bracketed
decreases-bracketed l = length l.cursor.now * 32 + 1

abbrev pub decreases-others : goal.decreases-others
decreases-others l = length l.cursor.now * 32 + 31

abbrev pub decreases-operators : goal.decreases-operators
decreases-operators l = length l.cursor.now * 32 + 31

abbrev pub decreases-negated : goal.decreases-negated
decreases-negated l = length l.cursor.now * 32 + 14

abbrev pub decreases-unary : goal.decreases-unary
decreases-unary l = length l.cursor.now * 32 + 12

abbrev pub decreases-primary : goal.decreases-primary
decreases-primary l = length l.cursor.now * 32 + 8

abbrev pub decreases-called : goal.decreases-called
decreases-called l = length l.cursor.now * 32 + 1

abbrev pub decreases-named : goal.decreases-named
decreases-named l = length l.cursor.now * 32 + 2

abbrev pub decreases-enclosed : goal.decreases-enclosed
decreases-enclosed l = length l.cursor.now * 32 + 1

abbrev pub decreases-operators-loop-taken : goal.decreases-operators-loop-taken
decreases-operators-loop-taken l = length l.cursor

abbrev pub invariant-operators-loop-taken : goal.invariant-operators-loop-taken
invariant-operators-loop-taken l = record {
  few : length l.cursor ≤ length l.fn.cursor;
  below : IfSome l.taken (λ i. i.level + 1 ≤ l.under);
  climbed : (least : ℕ) (before : List Lexeme) → IsTaken l.under least (Some (infix_of l.fn.first)) before l.fn.cursor → (e : WrittenExpression) → IsOperand (meaning_of l.names) e (expression_of l.fn.read.expr) l.fn.read.kind
      → ClimbedTo (meaning_of l.names) l.under (climb l.under least e before) (option_map infix_of l.taken) l.cursor (expression_of l.read.expr) l.read.kind;
}
