-- Operators with their right operands, one after another, and the levels at which they are.
use Rattle.std.proofs.Common.{◌≡◌, ℕ, ◌≤◌, Bool, true, false, if◌then◌else◌, List, length, Option, Some, refl, ap, ◌∙◌, arith}
use Rattle.std.specs.Prelude.{Result, Ok, Err, IfOk}
use Rattle.model_core.specs.declared.model.Kind.{Kind}
use Rattle.one_pass.specs.declared.not_read.NotRead.{NotRead}
use Rattle.model_core.specs.EventGraph as graph
use Rattle.model_core.specs.Text.Lexing.{Lexeme}
use Rattle.model_core.specs.Text.Written.{WrittenExpression}
use Rattle.model_core.specs.declared.token.Word.TheVariants as words
use Rattle.model_core.specs.Text.Format.{AWord, ByRule}
use Rattle.model_core.specs.Text.Expressions.{Level, level_format}
use Rattle.model_core.specs.Static.Meanings.{Meaning}
use Rattle.text_laws.specs.FormatReader.{Parse, Parser, and_next}
use Rattle.text_laws.specs.LanguageReader.{level_lookahead, language_reader}
use Rattle.text_laws.proofs.Formats.RuleLaws.{rule-is}
use Rattle.text_laws.proofs.Formats.OneTokenDecides.{levels-fine}
use Rattle.text_laws.specs.FirstTokens.{begins_as}
use Rattle.text_laws.specs.Ladder.{operand_level, climb, infix_at, at_levels, after_operator}
use Rattle.text_laws.proofs.OperandLevels.{from-not, from-unary}
use Rattle.one_pass.specs.Inner.ReadOperands.{first_operand, IsOperand, ReadOperand, OperandTaken, ClimbsFrom, ClimbsOn}

-- An operator that was taken, or none, of the levels from the least one up to the one below `under`, and what is left of the tokens after it.
pub record IsTaken (under least : ℕ) (taken : Option (ℕ × graph.Operator)) (before left : List Lexeme) : Type 0 where
  pub takes : taken ≡ at_levels least under (infix_at before)
  pub leaves : left ≡ after_operator (at_levels least under (infix_at before)) before

-- for any expression before the operator that was taken, the rest of the operators goes on with it
pub record ClimbedTo (means : List ℕ → Option Meaning) (under : ℕ) (whole : Parse WrittenExpression) (taken : Option (ℕ × graph.Operator)) (left : List Lexeme) (y : graph.Expression) (kind : Option Kind) : Type 0 where
  pub written : WrittenExpression
  pub operand : IsOperand means written y kind
  pub least : ℕ
  pub before : List Lexeme
  pub is_taken : IsTaken under least taken before left
  pub goes_on : climb under least written before ≡ whole

-- a level begins with its first operand, which may be a negated one, and goes on with the operators that may come after it
pub first_comes : (under : ℕ) (tokens : List Lexeme) (negated : Bool) (least : ℕ) → under ≤ 5 → (negated ≡ true → (3 ≤ under) × (begins_as (AWord words.Not) tokens ≡ true)) → (negated ≡ false → 3 ≤ under → begins_as (AWord words.Not) tokens ≡ false)
    → least ≡ (if negated then 3 else 0) → language_reader (ByRule (operand_level under)) tokens ≡ and_next (climb under least) (first_operand negated tokens)
first_comes under tokens true least few comes absent is = rw is (from-not under tokens few (comes refl))
first_comes under tokens false least few comes absent is = rw is (from-unary under tokens few (absent refl))

module _ (means : List ℕ → Option Meaning) where
  -- a level reads as its format does
  pub by_level : {A : Type 0} (l : Level) (tokens after : List Lexeme) (r : Result A NotRead) (x : graph.Expression) (kind : Option Kind) → IfOk r (λ u. OperandTaken means (language_reader (level_format l) tokens) tokens after x kind)
      → IfOk r (λ u. OperandTaken means (language_reader (ByRule l) tokens) tokens after x kind)
  by_level l tokens after (Ok u) x kind taken =
      let r = taken.reads in
      record { reads = record { written = r.written; is_read = rule-is level_lookahead level_format levels-fine l tokens ∙ r.is_read; operand = r.operand }; shorter = taken.shorter }
  by_level l tokens after (Err e) x kind taken = tt

  -- the first operand, and then what comes after it
  pub behind_first : {A : Type 0} (others : WrittenExpression → Parser WrittenExpression) (whole first : Parse WrittenExpression) (before between after : List Lexeme) (r : Result A NotRead) (x : graph.Expression) (kind : Option Kind)
      (y : graph.Expression) (kind' : Option Kind) → whole ≡ and_next others first → OperandTaken means first before between x kind
      → IfOk r (λ u. (w : WrittenExpression) → IsOperand means w x kind → ReadOperand means (others w between) after y kind') → IfOk r (λ u. length after ≤ length between)
      → IfOk r (λ u. OperandTaken means whole before after y kind')
  behind_first others whole first before between after (Ok u) x kind y kind' same taken go fewer =
      let read = taken.reads in
      let next = go read.written read.operand in
      record {
        reads = record { written = next.written; is_read = same ∙ ap (and_next others) read.is_read ∙ next.is_read; operand = next.operand };
        shorter = let one = taken.shorter in omega (arith, one, fewer);
      }
  behind_first others whole first before between after (Err e) x kind y kind' same taken go fewer = tt

  -- an operand, and after it all that comes after the operator that was taken
  pub goes-on : {A : Type 0} (under : ℕ) (first : ℕ × graph.Operator) (left after : List Lexeme) (r : Result A NotRead) (x : graph.Expression) (kind : Option Kind) (y : graph.Expression) (kind' : Option Kind) (least : ℕ) (before : List Lexeme)
      → Some first ≡ at_levels least under (infix_at before) → left ≡ after_operator (at_levels least under (infix_at before)) before → IfOk r (λ u. ClimbsOn means under first left after x kind y kind') → IfOk r (λ u. ClimbsFrom means under least before after x kind y kind')
  goes-on under first left after (Ok u) x kind y kind' least before takes leaves goes = goes least before takes leaves
  goes-on under first left after (Err e) x kind y kind' least before takes leaves goes = tt
