-- Operators between operands, by levels: 0 for products, 1 for sums, 2 for comparisons, 3 for `and`, 4 for `or`.
use Rattle.std.specs.Prelude.{ℕ, zero, suc, nat_lt, if◌then◌else◌, List, [], ◌∷◌, drop, Option, Some, None}
use Rattle.model_core.specs.declared.token.Word.TheVariants as words
use Rattle.model_core.specs.declared.token.Symbol.TheVariants as symbols
use Rattle.model_core.specs.EventGraph.{Operator, Add, Subtract, Multiply, Divide, Remainder, Equal, NotEqual, Below, AtMost, Above, AtLeast, And, Or}
use Rattle.model_core.specs.Text.Lexing.{Lexeme, LexemeKind, Reserved, Mark}
use Rattle.model_core.specs.Text.Written.{WrittenExpression, Negative, Not, If}
use Rattle.model_core.specs.Text.Format.{Yields, Many, ByRule, reserved, mark, any_name, ◌<*>◌, ◌<*◌, maybe}
use Rattle.model_core.specs.Text.Expressions.{Level, Whole, Disjunction, Conjunction, Negation, Sum, Product, Unary, LanguageFormat, of_name, index_format, word_for, comparing, adding, multiplying, right_side, grouped, compared}
use Rattle.text_laws.specs.FormatReader.{Parser, took, and_next}
use Rattle.text_laws.specs.LanguageReader.{language_reader}

-- the operator that a token of this kind is, with its level
abbrev pub infix_of_kind : LexemeKind → Option (ℕ × Operator)
infix_of_kind (Mark symbols.Times) = Some (0, Multiply)
infix_of_kind (Mark symbols.Over) = Some (0, Divide)
infix_of_kind (Mark symbols.Percent) = Some (0, Remainder)
infix_of_kind (Mark symbols.Plus) = Some (1, Add)
infix_of_kind (Mark symbols.Minus) = Some (1, Subtract)
infix_of_kind (Mark symbols.Equal) = Some (2, Equal)
infix_of_kind (Mark symbols.NotEqual) = Some (2, NotEqual)
infix_of_kind (Mark symbols.Below) = Some (2, Below)
infix_of_kind (Mark symbols.AtMost) = Some (2, AtMost)
infix_of_kind (Mark symbols.Above) = Some (2, Above)
infix_of_kind (Mark symbols.AtLeast) = Some (2, AtLeast)
infix_of_kind (Reserved words.And) = Some (3, And)
infix_of_kind (Reserved words.Or) = Some (4, Or)
infix_of_kind _ = None

-- the operator that comes next, if one does
abbrev pub infix_at : List Lexeme → Option (ℕ × Operator)
infix_at [] = None
infix_at (t ∷ tokens) = infix_of_kind t.kind

-- the operators of a level
abbrev pub operators_of : ℕ → LanguageFormat Operator
operators_of zero = multiplying
operators_of (suc zero) = adding
operators_of (suc (suc zero)) = comparing
operators_of (suc (suc (suc zero))) = word_for words.And And
operators_of _ = word_for words.Or Or

-- what the operands of a level's operators are
abbrev pub operand_level : ℕ → Level
operand_level zero = Unary
operand_level (suc zero) = Product
operand_level (suc (suc zero)) = Sum
operand_level (suc (suc (suc zero))) = Negation
operand_level (suc (suc (suc (suc zero)))) = Conjunction
operand_level _ = Disjunction

-- the least level of an operator that may come after one of this level and its operands: comparisons don't chain
abbrev pub next_level : ℕ → ℕ
next_level (suc (suc zero)) = 3
next_level k = k

-- read after an operand: operators of this level, each with its right operand
abbrev pub rung : ℕ → WrittenExpression → Parser WrittenExpression
rung (suc (suc zero)) a tokens = and_next (λ x. took (compared a x)) (language_reader (maybe (right_side comparing Sum)) tokens)
rung k a tokens = and_next (λ xs. took (grouped a xs)) (language_reader (Many (right_side (operators_of k) (operand_level k))) tokens)

-- read after an operand: operators of the levels from the least one up to the one below `under`
unfoldable pub climb : ℕ → ℕ → WrittenExpression → Parser WrittenExpression
climb zero least a tokens = took a tokens
climb (suc level) least a tokens = if nat_lt least (suc level) then and_next (rung level) (climb level least a tokens) else took a tokens

-- the operator, where its level is the least one or higher, and below `under`
abbrev pub at_levels : ℕ → ℕ → Option (ℕ × Operator) → Option (ℕ × Operator)
at_levels least under None = None
at_levels least under (Some found) = if nat_lt found.0 least then None else (if nat_lt found.0 under then Some found else None)

-- what is left where the operator is taken
abbrev pub after_operator : Option (ℕ × Operator) → List Lexeme → List Lexeme
after_operator None tokens = tokens
after_operator (Some found) tokens = drop 1 tokens

-- `if` with its parts
abbrev pub if_format : LanguageFormat WrittenExpression
if_format = Yields If <*> reserved words.If <*> ByRule Whole <* reserved words.Then <*> ByRule Whole <* reserved words.Else <*> ByRule Whole

-- `-` and its operand
abbrev pub negative_format : LanguageFormat WrittenExpression
negative_format = Yields Negative <*> mark symbols.Minus <*> ByRule Unary

-- `not` and its operand
abbrev pub not_format : LanguageFormat WrittenExpression
not_format = Yields Not <*> reserved words.Not <*> ByRule Negation

-- a variable or a cell
abbrev pub named_format : LanguageFormat WrittenExpression
named_format = Yields of_name <*> any_name <*> maybe index_format
