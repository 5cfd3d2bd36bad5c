-- An expression is its first operand, and then operators with their right operands, level by level.
use Rattle.std.proofs.Common.{◌≡◌, ℕ, zero, suc, ◌≤◌, true, false, List, refl, sym, ap, ◌∙◌, arith}
use Rattle.std.specs.Prelude.{Ok, Err}
use Rattle.std.proofs.lemmas.Bool.{le-ltb}
use Rattle.sig_base.proofs.Tests.{nat_lt-suc}
use Rattle.model_core.specs.declared.token.Word.TheVariants as words
use Rattle.model_core.specs.Text.Lexing.{Lexeme}
use Rattle.model_core.specs.Text.Written.{WrittenExpression}
use Rattle.model_core.specs.Text.Format.{Many, ByRule, AWord, maybe}
use Rattle.model_core.specs.Text.Expressions.{Level, Disjunction, Conjunction, Negation, Comparison, Sum, Product, Unary, grouped, compared, comparing, right_side, level_format}
use Rattle.text_laws.specs.FirstTokens.{begins_as}
use Rattle.text_laws.specs.FormatReader.{Parse, Parser, took, and_next}
use Rattle.text_laws.specs.LanguageReader.{level_lookahead, language_reader}
use Rattle.text_laws.proofs.Formats.RuleLaws.{same_next, rule-is}
use Rattle.text_laws.proofs.Formats.OneTokenDecides.{levels-fine}
use Rattle.text_laws.specs.Ladder.{operators_of, operand_level, rung, climb, not_format}

pub next-next : {A B C : Type 0} (f : B → Parser C) (g : A → Parser B) (r : Parse A) → and_next f (and_next g r) ≡ and_next (λ a left. and_next f (g a left)) r
next-next f g (Ok r) = refl
next-next f g (Err rest) = refl

two_parts : {A B C : Type 0} (f : A → B → C) (q : Parser B) (r : Parse A) → and_next (λ g left. and_next (λ x rest. Ok (g x, rest)) (q left)) (and_next (λ x rest. Ok (f x, rest)) r) ≡ and_next (λ a left. and_next (λ x. took (f a x)) (q left)) r
two_parts f q (Ok r) = refl
two_parts f q (Err rest) = refl

abbrev pub of_level : Level → Parser WrittenExpression
of_level l tokens = language_reader (ByRule l) tokens

-- a level is read as its format is
pub level-is : (l : Level) (tokens : List Lexeme) → of_level l tokens ≡ language_reader (level_format l) tokens
level-is l tokens = rule-is level_lookahead level_format levels-fine l tokens

next-0 : (tokens : List Lexeme) → of_level Product tokens ≡ and_next (rung 0) (of_level Unary tokens)
unfolding level_format
next-0 tokens = level-is Product tokens ∙ two_parts grouped (language_reader (Many (right_side (operators_of 0) Unary))) (of_level Unary tokens)

next-1 : (tokens : List Lexeme) → of_level Sum tokens ≡ and_next (rung 1) (of_level Product tokens)
unfolding level_format
next-1 tokens = level-is Sum tokens ∙ two_parts grouped (language_reader (Many (right_side (operators_of 1) Product))) (of_level Product tokens)

next-2 : (tokens : List Lexeme) → begins_as (AWord words.Not) tokens ≡ false → of_level Negation tokens ≡ and_next (rung 2) (of_level Sum tokens)
unfolding level_format
next-2 tokens e = level-is Negation tokens ∙ (rw e (level-is Comparison tokens)) ∙ two_parts compared (language_reader (maybe (right_side comparing Sum))) (of_level Sum tokens)

next-3 : (tokens : List Lexeme) → of_level Conjunction tokens ≡ and_next (rung 3) (of_level Negation tokens)
unfolding level_format
next-3 tokens = level-is Conjunction tokens ∙ two_parts grouped (language_reader (Many (right_side (operators_of 3) Negation))) (of_level Negation tokens)

next-4 : (tokens : List Lexeme) → of_level Disjunction tokens ≡ and_next (rung 4) (of_level Conjunction tokens)
unfolding level_format
next-4 tokens = level-is Disjunction tokens ∙ two_parts grouped (language_reader (Many (right_side (operators_of 4) Conjunction))) (of_level Conjunction tokens)

-- each level's operands are those of the level below it, with its operators
up : (level : ℕ) (tokens : List Lexeme) → level ≤ 4 → (level ≡ 2 → begins_as (AWord words.Not) tokens ≡ false) → of_level (operand_level (suc level)) tokens ≡ and_next (rung level) (of_level (operand_level level) tokens)
up zero tokens few plain = next-0 tokens
up (suc zero) tokens few plain = next-1 tokens
up (suc (suc zero)) tokens few plain = next-2 tokens (plain refl)
up (suc (suc (suc zero))) tokens few plain = next-3 tokens
up (suc (suc (suc (suc zero)))) tokens few plain = next-4 tokens
up (suc (suc (suc (suc (suc n))))) tokens few plain = absurd (omega arith)

next-took : {A : Type 0} (r : Parse A) → and_next (λ a left. took a left) r ≡ r
next-took (Ok r) = refl
next-took (Err rest) = refl

pub climb-more : (level least : ℕ) (a : WrittenExpression) (tokens : List Lexeme) → least ≤ level → climb (suc level) least a tokens ≡ and_next (rung level) (climb level least a tokens)
unfolding climb
climb-more level least a tokens h = rw (nat_lt-suc least level h) refl

pub climb-none : (under least : ℕ) (a : WrittenExpression) (tokens : List Lexeme) → under ≤ least → climb under least a tokens ≡ took a tokens
unfolding climb
climb-none zero least a tokens h = refl
climb-none (suc level) least a tokens h = rw (le-ltb least (suc level) h) refl

-- one level more comes after the others
more : (level least : ℕ) (r : Parse WrittenExpression) → least ≤ level → and_next (rung level) (and_next (climb level least) r) ≡ and_next (climb (suc level) least) r
more level least r h = next-next (rung level) (climb level least) r ∙ same_next _ _ r (λ a left e. sym (climb-more level least a left h))

-- where no `not` comes, or none may come, all levels come after an operand of a product
pub from-unary : (under : ℕ) (tokens : List Lexeme) → under ≤ 5 → (3 ≤ under → begins_as (AWord words.Not) tokens ≡ false) → of_level (operand_level under) tokens ≡ and_next (climb under 0) (of_level Unary tokens)
unfolding climb
from-unary zero tokens few plain = sym (next-took (of_level Unary tokens))
from-unary (suc level) tokens few plain =
    up level tokens (omega arith) (λ e. plain (omega arith))
    ∙ ap (and_next (rung level)) (from-unary level tokens (omega arith) (λ h. plain (omega arith)))
    ∙ more level 0 (of_level Unary tokens) (omega arith)

-- where `not` comes, the levels from `and` on come after the negated operand
from-negation : (above : ℕ) (tokens : List Lexeme) → above ≤ 2 → begins_as (AWord words.Not) tokens ≡ true → of_level (operand_level (suc (suc (suc above)))) tokens ≡ and_next (climb (suc (suc (suc above))) 3) (language_reader not_format tokens)
unfolding climb level_format
from-negation zero tokens few e = level-is Negation tokens ∙ (rw e (sym (next-took (language_reader not_format tokens)))) ∙ same_next _ _ (language_reader not_format tokens) (λ a left e. sym (climb-none 3 3 a left (omega arith)))
from-negation (suc above) tokens few e =
    up (suc (suc (suc above))) tokens (omega arith) (λ h. absurd (omega arith))
    ∙ ap (and_next (rung (suc (suc (suc above))))) (from-negation above tokens (omega arith) e)
    ∙ more (suc (suc (suc above))) 3 (language_reader not_format tokens) (omega arith)

pub from-not : (under : ℕ) (tokens : List Lexeme) → under ≤ 5 → (3 ≤ under) × (begins_as (AWord words.Not) tokens ≡ true) → of_level (operand_level under) tokens ≡ and_next (climb under 3) (language_reader not_format tokens)
from-not zero tokens few e = absurd (let h = e.0 in omega arith)
from-not (suc zero) tokens few e = absurd (let h = e.0 in omega arith)
from-not (suc (suc zero)) tokens few e = absurd (let h = e.0 in omega arith)
from-not (suc (suc (suc above))) tokens few e = from-negation above tokens (omega arith) e.1
