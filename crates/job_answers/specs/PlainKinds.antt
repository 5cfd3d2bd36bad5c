-- The kinds of tokens, without their places and without the sign of a zero.
use Rattle.std.specs.Prelude.{zero, List, [], ◌∷◌}
use Rattle.model_core.specs.declared.token.Symbol.TheVariants as symbols
use Rattle.model_core.specs.Text.Lexing.{Lexeme, LexemeKind, NumberOf, Mark}

-- a token before others: a sign before a zero counts for nothing
abbrev pub before_kinds : LexemeKind → List LexemeKind → List LexemeKind
before_kinds (Mark symbols.Minus) (NumberOf value zero ∷ kinds) = NumberOf value zero ∷ kinds
before_kinds kind kinds = kind ∷ kinds

-- the kinds of these tokens. Leading zeros of a number don't show in its kind
abbrev pub plain_kinds : List Lexeme → List LexemeKind
plain_kinds [] = []
plain_kinds (t ∷ tokens) = before_kinds t.kind (plain_kinds tokens)
