-- The tokens of a text: names, reserved words, numbers and symbols, with blanks and comments between them.
use Rattle.std.specs.Prelude.{ℕ, zero, suc, ◌+◌, ◌-◌, ◌^◌, ℤ, pos, Bool, not, ◌||◌, ◌==◌, nat_eq, nat_lt, if◌then◌else◌, List, [], ◌∷◌, length, map, Option, Some, None, Result, Ok, Err, codes}
use Rattle.std.specs.List.{take_while, starts_with}
use Rattle.std.specs.Char.{is_ascii_digit, is_ascii_alphabetic}
use Rattle.std.specs.Int.Digits.{number_from_digits}
use lib.Pointwise.{pointwise}
use Rattle.model_core.specs.declared.token.Word.{Word}
use Rattle.model_core.specs.declared.token.Word.TheVariants as words
use Rattle.model_core.specs.declared.token.Symbol.{Symbol}
use Rattle.model_core.specs.declared.token.Symbol.TheVariants as symbols

-- what a token is: a name with its bytes, a reserved word, a number or a symbol. A number has its value if that is below 2^63,
-- and then the number that its digits write, however large
pub data LexemeKind : Type 0 where
  NameOf : List ℕ → LexemeKind
  Reserved : Word → LexemeKind
  NumberOf : Option ℤ → ℕ → LexemeKind
  Mark : Symbol → LexemeKind

-- a token, the byte at which it begins, and the byte after its last
pub record Lexeme : Type 0 where
  pub from : ℕ
  pub to : ℕ
  pub kind : LexemeKind

-- the reserved words
abbrev pub reserved_words : List (List ℕ × Word)
reserved_words =
    (codes "model", words.Model) ∷ (codes "var", words.Var) ∷ (codes "bool", words.Bool) ∷ (codes "clip", words.Clip) ∷
    (codes "table", words.Table) ∷ (codes "watch", words.Watch) ∷ (codes "vertex", words.Vertex) ∷
    (codes "set", words.Set) ∷ (codes "draw", words.Draw) ∷ (codes "from", words.From) ∷
    (codes "in", words.In) ∷ (codes "by", words.By) ∷
    (codes "schedule", words.Schedule) ∷ (codes "urgent", words.Urgent) ∷ (codes "cancel", words.Cancel) ∷
    (codes "all", words.All) ∷ (codes "after", words.After) ∷ (codes "priority", words.Priority) ∷
    (codes "when", words.When) ∷ (codes "end", words.End) ∷
    (codes "not", words.Not) ∷ (codes "and", words.And) ∷ (codes "or", words.Or) ∷
    (codes "if", words.If) ∷ (codes "then", words.Then) ∷ (codes "else", words.Else) ∷
    (codes "true", words.True) ∷ (codes "false", words.False) ∷ (codes "clk", words.Clk) ∷
    (codes "min", words.Min) ∷ (codes "max", words.Max) ∷
    (codes "version", words.Version) ∷ (codes "certificate", words.Certificate) ∷
    (codes "prune", words.Prune) ∷ (codes "settle", words.Settle) ∷
    (codes "drop", words.Drop) ∷ (codes "merge", words.Merge) ∷ (codes "slice", words.Slice) ∷
    []

-- the symbols, each after those that begin with it
abbrev pub all_symbols : List (List ℕ × Symbol)
all_symbols =
    (codes ":=", symbols.Becomes) ∷ (codes "..", symbols.To) ∷
    (codes "<>", symbols.NotEqual) ∷ (codes "<=", symbols.AtMost) ∷ (codes ">=", symbols.AtLeast) ∷
    (codes ";", symbols.Semicolon) ∷ (codes ",", symbols.Comma) ∷ (codes ":", symbols.Colon) ∷
    (codes "=", symbols.Equal) ∷ (codes "<", symbols.Below) ∷ (codes ">", symbols.Above) ∷
    (codes "+", symbols.Plus) ∷ (codes "-", symbols.Minus) ∷ (codes "*", symbols.Times) ∷
    (codes "/", symbols.Over) ∷ (codes "%", symbols.Percent) ∷
    (codes "(", symbols.OpenParenthesis) ∷ (codes ")", symbols.CloseParenthesis) ∷
    (codes "[", symbols.OpenBracket) ∷ (codes "]", symbols.CloseBracket) ∷
    (codes "{", symbols.OpenBrace) ∷ (codes "}", symbols.CloseBrace) ∷
    []

-- space, tab, carriage return and line feed
abbrev pub is_blank : ℕ → Bool
is_blank c = ((c == 32) || (c == 9)) || ((c == 13) || (c == 10))

-- a word goes on with letters, digits and `_`
abbrev pub is_word_byte : ℕ → Bool
is_word_byte c = (is_ascii_alphabetic c || is_ascii_digit c) || (c == 95)

-- a comment goes on up to the next line feed
abbrev pub is_comment_byte : ℕ → Bool
is_comment_byte c = not (c == 10)

abbrev pub same_bytes : List ℕ → List ℕ → Bool
same_bytes a b = pointwise nat_eq a b

-- the reserved word that is spelled so, or else a name
abbrev pub word_among : List (List ℕ × Word) → List ℕ → LexemeKind
word_among [] bytes = NameOf bytes
word_among (w ∷ ws) bytes = if same_bytes bytes w.0 then Reserved w.1 else word_among ws bytes

-- the number that digits write
abbrev pub digits_value : List ℕ → ℕ
digits_value digits = number_from_digits 10 (map (λ c. c - 48) digits)

-- that number, where it is below 2^63
abbrev pub literal_value : List ℕ → Option ℤ
literal_value digits = let n = digits_value digits in if nat_lt n (2 ^ 63) then Some (pos n) else None

-- what a text begins with: so many bytes of blanks or of a comment, its longest token, or a byte that begins no token
pub data Front : Type 0 where
  Between : ℕ → Front
  Longest : ℕ → LexemeKind → Front
  Neither : Front

abbrev pub front_length : Front → ℕ
front_length (Between n) = n
front_length (Longest n k) = n
front_length Neither = 1

-- the first of these symbols that the text begins with
abbrev pub symbol_among : List (List ℕ × Symbol) → List ℕ → Front
symbol_among [] text = Neither
symbol_among (s ∷ ss) text = if starts_with nat_eq text s.0 then Longest (length s.0) (Mark s.1) else symbol_among ss text

abbrev pub word_front : List ℕ → Front
word_front bytes = Longest (length bytes) (word_among reserved_words bytes)

abbrev pub number_front : List ℕ → Front
number_front digits = Longest (length digits) (NumberOf (literal_value digits) (digits_value digits))

-- what the text c ∷ s begins with
abbrev pub front : ℕ → List ℕ → Front
front c s =
    if is_blank c then Between 1
    else (if c == 35 then Between (length (take_while is_comment_byte (c ∷ s)))
    else (if is_ascii_alphabetic c then word_front (take_while is_word_byte (c ∷ s))
    else (if is_ascii_digit c then number_front (take_while is_ascii_digit (c ∷ s))
    else symbol_among all_symbols (c ∷ s))))

-- the tokens of a text from this front on, of which the later ones are known
abbrev pub after_front : ℕ → Front → Result (List Lexeme) ℕ → Result (List Lexeme) ℕ
after_front at (Between n) later = later
after_front at (Longest n kind) (Ok later) = Ok (record { from = at; to = at + n; kind = kind } ∷ later)
after_front at (Longest n kind) (Err place) = Err place
after_front at Neither later = Err at

-- The tokens of a text from the place `at` on, or the place of its first byte that begins no token. Its first `inside` bytes
-- belong to the front before it and are passed over; then comes the front there, and the tokens of the rest.
abbrev pub tokens_from : ℕ → ℕ → List ℕ → Result (List Lexeme) ℕ
tokens_from at inside [] = Ok []
tokens_from at (suc inside) (c ∷ s) = tokens_from (at + 1) inside s
tokens_from at zero (c ∷ s) = after_front at (front c s) (tokens_from (at + 1) (front_length (front c s) - 1) s)

-- The tokens of a text, or the place of its first byte that begins no token. A text is cut into just this, by the law
-- `texts_are_cut` of `model_lex`.
abbrev pub tokens_of : List ℕ → Result (List Lexeme) ℕ
tokens_of text = tokens_from 0 0 text
