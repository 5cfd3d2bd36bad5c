-- What the code's values represent, and the front of a text as the code looks for it.
use Rattle.std.specs.Prelude.{◌≡◌, ℕ, ◌+◌, ◌==◌, if◌then◌else◌, List, [], ◌∷◌, ◌++◌, length, take, filter, slice_index, Option, Some, None, Result, Ok, Err}
use Rattle.std.specs.List.{prefix_len}
use Rattle.std.specs.Char.{is_ascii_digit, is_ascii_alphabetic}
use Rattle.model_core.specs.Text.Lexing.{Lexeme, Mark, NumberOf, Front, Between, Longest, Neither, is_blank, is_word_byte, is_comment_byte, reserved_words, all_symbols, word_among, symbol_among, digits_value, literal_value}
use Rattle.model_core.specs.declared.token.Word.{Word}
use Rattle.model_core.specs.declared.token.Symbol.{Symbol}
use Rattle.model_lex.specs.declared.lex_error.LexError.{LexError}
use Rattle.model_lex.specs.declared.lex_error.LexError.TheVariants as errors

-- the front that a length and a symbol represent
abbrev pub symbol_as_front : Option (ℕ × Symbol) → Front
symbol_as_front None = Neither
symbol_as_front (Some (n, s)) = Longest n (Mark s)

-- The front at a place is passed over: the tokens before and after that, and the place after it. A byte that begins no
-- token is not passed over.
abbrev pub Passes : ℕ → Front → List Lexeme → List Lexeme → ℕ → Type 0
Passes at (Between n) before after to = (to ≡ at + n) × (after ≡ before)
Passes at (Longest n kind) before after to = (to ≡ at + n) × (after ≡ before ++ record { from = at; to = at + n; kind = kind } ∷ [])
Passes at Neither before after to = ⊥

-- a symbol of so many bytes, or what there is otherwise
abbrev pub symbol_front : ℕ → Option Symbol → Front → Front
symbol_front n (Some s) otherwise = Longest n (Mark s)
symbol_front n None otherwise = otherwise

-- the symbols of so many bytes
abbrev pub symbols_of_length : ℕ → List (List ℕ × Symbol)
symbols_of_length n = filter (λ s. length s.0 == n) all_symbols

-- the reserved words that begin with this byte
abbrev pub words_with_first : ℕ → List (List ℕ × Word)
words_with_first c = filter (λ w. slice_index w.0 0 == c) reserved_words

-- the word of so many bytes
abbrev pub word_at : ℕ → List ℕ → Front
word_at n bytes = Longest n (word_among reserved_words (take n bytes))

-- the number of so many digits
abbrev pub number_at : ℕ → List ℕ → Front
number_at n bytes = let digits = take n bytes in Longest n (NumberOf (literal_value digits) (digits_value digits))

-- what bytes that aren't empty begin with
abbrev pub front_at : List ℕ → Front
front_at bytes =
    if is_blank (slice_index bytes 0) then Between 1
    else (if slice_index bytes 0 == 35 then Between (prefix_len is_comment_byte bytes)
    else (if is_ascii_alphabetic (slice_index bytes 0) then word_at (prefix_len is_word_byte bytes) bytes
    else (if is_ascii_digit (slice_index bytes 0) then number_at (prefix_len is_ascii_digit bytes) bytes
    else symbol_among all_symbols bytes)))

-- A function's result, seen by view, is that of the text, unless memory ran out.
abbrev pub Gives : {X Y : Type 0} → (X → Y) → Result X LexError → Result Y ℕ → Type 0
Gives view (Ok x) read = read ≡ Ok (view x)
Gives view (Err (errors.BadByte at)) read = read ≡ Err at
Gives view (Err errors.NoMemory) read = Unit {0}
