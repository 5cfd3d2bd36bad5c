-- The result of a call of a level, from the results of the calls of its operands.
use Rattle.std.proofs.Common.{◌≡◌, ℕ, ◌≤◌, List, None, sym, ap, ◌∙◌, subst}
use Rattle.std.specs.Prelude.{Result, Ok, Err}
use Rattle.model_core.specs.declared.raw.RawExpr.{RawExpr}
use Rattle.model_core.specs.Code.WrittenViews.{written_expression}
use Rattle.model_core.specs.Text.Lexing.{Lexeme}
use Rattle.model_core.specs.Text.Written.{WrittenExpression}
use Rattle.model_core.specs.Text.Expressions.{Level, level_format}
use Rattle.text_laws.specs.FormatReader.{Parse, Parser, took, and_next}
use Rattle.text_laws.specs.LanguageReader.{language_reader}
use Rattle.text_laws.specs.Ladder.{infix_at, climb, at_levels}
use Rattle.text_laws.proofs.OperandLevels.{of_level, level-is}
use Rattle.text_laws.proofs.OperatorsInTurn.{no_operator}
use Rattle.model_read.specs.declared.stop.Stop.{Stop}
use Rattle.model_read.specs.ReadCalls.{Stops, Returned}

-- a level's call is that of its format
pub by_format : (l : Level) (r : Result RawExpr Stop) (tokens left : List Lexeme) → Returned written_expression r left (language_reader (level_format l) tokens) → Returned written_expression r left (of_level l tokens)
by_format l r tokens left g = subst (λ (p : Parse WrittenExpression). Returned written_expression r left p) (sym (level-is l tokens)) g

-- the first operand can't be read
pub stops_first : (others : WrittenExpression → Parser WrittenExpression) (whole first : Parse WrittenExpression) (error : Stop) (rest : List Lexeme) → whole ≡ and_next others first → Stops error rest first → Stops error rest whole
stops_first others whole first error rest e g = λ is. e ∙ ap (and_next others) (g is)

-- the first operand is read, and then what comes after it
pub gives_others : (others : WrittenExpression → Parser WrittenExpression) (whole first : Parse WrittenExpression) (r : Result RawExpr Stop) (a : WrittenExpression) (between left : List Lexeme) → whole ≡ and_next others first → first ≡ took a between
    → Returned written_expression r left (others a between) → Returned written_expression r left whole
gives_others others whole first r a between left e f g = subst (λ (p : Parse WrittenExpression). Returned written_expression r left p) (sym (e ∙ ap (and_next others) f)) g

-- the first operand alone, after which no operator of these levels comes
pub gives_alone : (under : ℕ) (whole first : Parse WrittenExpression) (r : Result RawExpr Stop) (left : List Lexeme) → under ≤ 5 → whole ≡ and_next (climb under 0) first → Returned written_expression r left first → at_levels 0 under (infix_at left) ≡ None → Returned written_expression r left whole
gives_alone under whole first (Ok e) left few same g none = same ∙ ap (and_next (climb under 0)) g ∙ no_operator under 0 (written_expression e) left few none
gives_alone under whole first (Err e) left few same g none = stops_first (climb under 0) whole first e left same g
