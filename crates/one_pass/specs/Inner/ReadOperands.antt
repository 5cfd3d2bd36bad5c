-- An expression that was read and checked at once.
use Rattle.std.specs.Prelude.{◌≡◌, ◌+◌, ◌≤◌, ℕ, Bool, true, false, List, [], length, Option, Some}
use Rattle.model_core.specs.declared.model.Kind.{Kind}
use Rattle.model_core.specs.EventGraph as graph
use Rattle.model_core.specs.Text.Lexing.{Lexeme}
use Rattle.model_core.specs.Text.Written.{WrittenExpression}
use Rattle.model_core.specs.Text.Format.{ByRule}
use Rattle.model_core.specs.Text.Expressions.{Unary}
use Rattle.model_core.specs.Text.Numbering.{expression}
use Rattle.model_core.specs.Static.Meanings.{Meaning}
use Rattle.model_core.specs.Static.Kinds.{expression_kind}
use Rattle.model_core.specs.Static.PartFaults.{expression_faults}
use Rattle.text_laws.specs.FormatReader.{Parse, took}
use Rattle.text_laws.specs.LanguageReader.{language_reader}
use Rattle.text_laws.specs.Ladder.{climb, not_format, infix_at, at_levels, after_operator}
use Rattle.static_laws.specs.Checked.{NumberedAs}
use Rattle.model_core.specs.Code.Views.{expression_of}
use Rattle.one_pass.specs.declared.expressions.Operand.{Operand}

-- the first operand at a level, which may be a negated one
abbrev pub first_operand : Bool → List Lexeme → Parse WrittenExpression
first_operand true tokens = language_reader not_format tokens
first_operand false tokens = language_reader (ByRule Unary) tokens

-- where names mean this, an expression without faults, of this number and this kind
pub record IsOperand (means : List ℕ → Option Meaning) (e : WrittenExpression) (x : graph.Expression) (kind : Option Kind) : Type 0 where
  pub unbroken : expression_faults means e ≡ []
  pub numbers : NumberedAs means (λ d. expression d e) x
  pub has_kind : kind ≡ expression_kind means e

-- what is read is such an expression
pub record ReadOperand (means : List ℕ → Option Meaning) (read : Parse WrittenExpression) (after : List Lexeme) (x : graph.Expression) (kind : Option Kind) : Type 0 where
  pub written : WrittenExpression
  pub is_read : read ≡ took written after
  pub operand : IsOperand means written x kind

-- such an expression was read, of a token at least
pub record OperandTaken (means : List ℕ → Option Meaning) (read : Parse WrittenExpression) (before after : List Lexeme) (x : graph.Expression) (kind : Option Kind) : Type 0 where
  pub reads : ReadOperand means read after x kind
  pub shorter : length after + 1 ≤ length before

-- a reader took such an expression from these tokens, which the code has as this operand
abbrev pub TakesOperand : (List ℕ → Option Meaning) → (List Lexeme → Parse WrittenExpression) → List Lexeme → List Lexeme → Operand → Type 0
TakesOperand means reader before after taken = OperandTaken means (reader before) before after (expression_of taken.expr) taken.kind

-- after an expression come operators and their right operands, which together are such an expression
abbrev pub ClimbsFrom : (List ℕ → Option Meaning) → ℕ → ℕ → List Lexeme → List Lexeme → graph.Expression → Option Kind → graph.Expression → Option Kind → Type 0
ClimbsFrom means under least before after x kind y kind' =
    (e : WrittenExpression) → IsOperand means e x kind → ReadOperand means (climb under least e before) after y kind'

-- after an operator that was taken of such operators, the same: its right operand comes first
abbrev pub ClimbsOn : (List ℕ → Option Meaning) → ℕ → ℕ × graph.Operator → List Lexeme → List Lexeme → graph.Expression → Option Kind → graph.Expression → Option Kind → Type 0
ClimbsOn means under first left after x kind y kind' =
    (least : ℕ) (before : List Lexeme) → Some first ≡ at_levels least under (infix_at before) → left ≡ after_operator (at_levels least under (infix_at before)) before → ClimbsFrom means under least before after x kind y kind'
