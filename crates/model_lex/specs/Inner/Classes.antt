-- What a byte can begin, by the byte alone.
use Rattle.std.specs.Prelude.{ℕ, ◌==◌, Bool, if◌then◌else◌, List, [], ◌∷◌, Option, Some, None, slice_index}
use Rattle.std.specs.List.{list_any}
use Rattle.std.specs.Option.{option_map_or}
use Rattle.std.specs.Char.{is_ascii_digit, is_ascii_alphabetic}
use Rattle.model_core.specs.declared.token.Word.{Word}
use Rattle.model_core.specs.declared.token.Symbol.{Symbol}
use Rattle.model_core.specs.Text.Lexing.{is_blank}
use Rattle.model_lex.specs.Inner.Fronts.{symbols_of_length, words_with_first}
use Rattle.model_lex.specs.declared.classes.Class.{Class}
use Rattle.model_lex.specs.declared.classes.Class.TheVariants as classes

-- one of these symbols begins with this byte
abbrev pub begins_one : List (List ℕ × Symbol) → ℕ → Bool
begins_one symbols c = list_any (λ s. slice_index s.0 0 == c) symbols

-- the first of these symbols that begins with this byte
abbrev pub symbol_with : List (List ℕ × Symbol) → ℕ → Option Symbol
symbol_with [] c = None
symbol_with (s ∷ ss) c = if slice_index s.0 0 == c then Some s.1 else symbol_with ss c

-- a letter with which these reserved words begin
abbrev pub letter_class : List (List ℕ × Word) → Class
letter_class [] = classes.Name
letter_class (w ∷ ws) = classes.Word

abbrev pub class_of : ℕ → Class
class_of c =
    if is_blank c then classes.Blank
    else (if c == 35 then classes.Comment
    else (if is_ascii_alphabetic c then letter_class (words_with_first c)
    else (if is_ascii_digit c then classes.Digit
    else (if begins_one (symbols_of_length 2) c then classes.Pair
    else option_map_or classes.Alone (symbol_with (symbols_of_length 1) c) classes.Nothing))))
