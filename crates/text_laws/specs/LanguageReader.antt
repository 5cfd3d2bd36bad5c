-- The levels of expressions: what each may begin with and go on with, and the reader of the language.
use Rattle.std.specs.Prelude.{ℕ, List, [], ◌∷◌}
use Rattle.model_core.specs.declared.token.Word.TheVariants as words
use Rattle.model_core.specs.declared.token.Symbol.TheVariants as symbols
use Rattle.model_core.specs.Text.Lexing.{Lexeme}
use Rattle.model_core.specs.Text.Written.{WrittenModel}
use Rattle.model_core.specs.Text.Format.{TokenSort, AName, ANumber, AWord, ASymbol}
use Rattle.model_core.specs.Text.Expressions.{Level, Whole, Disjunction, Conjunction, Negation, Comparison, Sum, Product, Unary, Primary, LanguageFormat, level_format}
use Rattle.model_core.specs.Text.Language.{text_format}
use Rattle.text_laws.specs.FirstTokens.{Lookahead}
use Rattle.text_laws.specs.FormatReader.{Parse, Parser, and_next, format_at, whole_read}

abbrev pub primary_first : List TokenSort
primary_first =
    ANumber ∷ AWord words.True ∷ AWord words.False ∷ AWord words.Clk ∷ AName ∷ ASymbol symbols.OpenParenthesis ∷ AWord words.Min ∷ AWord words.Max ∷ []

abbrev pub level_firsts : Level → List TokenSort
level_firsts Primary = primary_first
level_firsts Unary = ASymbol symbols.Minus ∷ primary_first
level_firsts Product = ASymbol symbols.Minus ∷ primary_first
level_firsts Sum = ASymbol symbols.Minus ∷ primary_first
level_firsts Comparison = ASymbol symbols.Minus ∷ primary_first
level_firsts Negation = AWord words.Not ∷ ASymbol symbols.Minus ∷ primary_first
level_firsts Conjunction = AWord words.Not ∷ ASymbol symbols.Minus ∷ primary_first
level_firsts Disjunction = AWord words.Not ∷ ASymbol symbols.Minus ∷ primary_first
level_firsts Whole = AWord words.If ∷ AWord words.Not ∷ ASymbol symbols.Minus ∷ primary_first

abbrev pub product_stops : List TokenSort
product_stops = ASymbol symbols.Times ∷ ASymbol symbols.Over ∷ ASymbol symbols.Percent ∷ ASymbol symbols.OpenBracket ∷ []

abbrev pub sum_stops : List TokenSort
sum_stops = ASymbol symbols.Plus ∷ ASymbol symbols.Minus ∷ product_stops

abbrev pub comparison_stops : List TokenSort
comparison_stops = ASymbol symbols.Equal ∷ ASymbol symbols.NotEqual ∷ ASymbol symbols.Below ∷ ASymbol symbols.AtMost ∷ ASymbol symbols.Above ∷ ASymbol symbols.AtLeast ∷ sum_stops

abbrev pub level_stops : Level → List TokenSort
level_stops Primary = ASymbol symbols.OpenBracket ∷ []
level_stops Unary = ASymbol symbols.OpenBracket ∷ []
level_stops Product = product_stops
level_stops Sum = sum_stops
level_stops Comparison = comparison_stops
level_stops Negation = comparison_stops
level_stops Conjunction = AWord words.And ∷ comparison_stops
level_stops Disjunction = AWord words.Or ∷ AWord words.And ∷ comparison_stops
level_stops Whole = AWord words.Or ∷ AWord words.And ∷ comparison_stops

abbrev pub level_rank : Level → ℕ
level_rank Whole = 8
level_rank Disjunction = 7
level_rank Conjunction = 6
level_rank Negation = 5
level_rank Comparison = 4
level_rank Sum = 3
level_rank Product = 2
level_rank Unary = 1
level_rank Primary = 0

unfoldable pub level_lookahead : Lookahead Level
level_lookahead = record { first_of = level_firsts; stops_of = level_stops; rank = level_rank }

-- the reader of a format of the language
abbrev pub language_reader : {A : Type 0} → LanguageFormat A → Parser A
language_reader f = format_at level_lookahead level_format f

-- what tokens read as, and what is left of them, or the tokens from the first that can't be at its place
abbrev pub text_and_rest : List Lexeme → Parse WrittenModel
text_and_rest tokens = language_reader text_format tokens

-- the same, where the tokens are one model text and nothing more
abbrev pub text_read : List Lexeme → Parse WrittenModel
text_read tokens = and_next whole_read (text_and_rest tokens)
