-- From the class of the first byte: the front that bytes begin with.
use Rattle.std.proofs.Common.{◌≡◌, ℕ, ◌<◌, Bool, true, false, cond, ◌||◌, ◌&&◌, List, [], ◌∷◌, length, take, slice_index, refl, sym, ap, ◌∙◌, arith}
use lib.Pointwise.{pointwise}
use Rattle.std.proofs.lemmas.Bool.{false≢true}
use Rattle.std.proofs.lemmas.List.{get_or-take}
use Rattle.std.specs.Prelude.{◌==◌, nat_eq, Option, Some, None}
use Rattle.std.specs.List.{prefix_len, list_all}
use Rattle.std.specs.Option.{option_map_or}
use Rattle.std.specs.Char.{is_ascii_digit, is_ascii_alphabetic}
use Rattle.model_lex.proofs.FrontLemmas.{prefix_len-first, word_begins}
use Rattle.model_core.specs.declared.token.Word.{Word}
use Rattle.model_core.specs.declared.token.Symbol.{Symbol}
use Rattle.model_core.specs.Text.Lexing.{NameOf, Mark, Front, Between, Longest, Neither, is_blank, is_word_byte, is_comment_byte, all_symbols, word_among, symbol_among}
use Rattle.model_lex.specs.Inner.Fronts.{front_at, word_at, number_at, words_with_first, symbols_of_length, symbol_front}
use Rattle.model_lex.specs.Inner.Classes.{class_of, letter_class, begins_one, symbol_with}
use Rattle.model_lex.specs.declared.classes.Class.{Class}
use Rattle.model_lex.specs.declared.classes.Class.TheVariants as classes
use Rattle.model_lex.proofs.ReservedWords.{word_among-first}
use Rattle.model_lex.proofs.SymbolsAmong.{by_length}

-- what bytes begin with, where their first one is of this class
abbrev pub front_of_class : Class → List ℕ → Front
front_of_class classes.Blank bytes = Between 1
front_of_class classes.Comment bytes = Between (prefix_len is_comment_byte bytes)
front_of_class classes.Name bytes = Longest (prefix_len is_word_byte bytes) (NameOf (take (prefix_len is_word_byte bytes) bytes))
front_of_class classes.Word bytes = word_at (prefix_len is_word_byte bytes) bytes
front_of_class classes.Digit bytes = number_at (prefix_len is_ascii_digit bytes) bytes
front_of_class classes.Pair bytes = symbol_among all_symbols bytes
front_of_class (classes.Alone symbol) bytes = Longest 1 (Mark symbol)
front_of_class classes.Nothing bytes = Neither

-- ---- symbols

-- a symbol that another byte begins is passed over
passed : (b x later : Bool) (f rest : Front) → (b || later) ≡ false → (later ≡ false → rest ≡ Neither) → cond (b && x) f rest ≡ Neither
passed false x later f rest e more = more e
passed true x later f rest e more = absurd (false≢true (sym e))

abbrev has_byte : List ℕ × Symbol → Bool
has_byte ([], k) = false
has_byte (d ∷ ds, k) = true

no_symbol : (ss : List (List ℕ × Symbol)) (c : ℕ) (t : List ℕ) → list_all has_byte ss ≡ true → begins_one ss c ≡ false → symbol_among ss (c ∷ t) ≡ Neither
no_symbol [] c t each none = refl
no_symbol (([], k) ∷ ss) c t each none = absurd (false≢true each)
no_symbol ((d ∷ ds, k) ∷ ss) c t each none = passed (d == c) (pointwise nat_eq ds (take (length ds) t)) (begins_one ss c) _ (symbol_among ss (c ∷ t)) none (λ others. no_symbol ss c t each others)

-- the symbol that begins with the byte, or what there is among the others
found : (b : Bool) (k : Symbol) (o : Option Symbol) (rest : Front) → symbol_front 1 o Neither ≡ rest → symbol_front 1 (cond b (Some k) o) Neither ≡ cond (b && true) (Longest 1 (Mark k)) rest
found true k o rest e = refl
found false k o rest e = e

abbrev is_byte : List ℕ × Symbol → Bool
is_byte ([], k) = false
is_byte (d ∷ [], k) = true
is_byte (d ∷ e ∷ ds, k) = false

one_of : (ss : List (List ℕ × Symbol)) (c : ℕ) → list_all is_byte ss ≡ true → symbol_front 1 (symbol_with ss c) Neither ≡ symbol_among ss (c ∷ [])
one_of [] c each = refl
one_of (([], k) ∷ ss) c each = absurd (false≢true each)
one_of ((d ∷ [], k) ∷ ss) c each = found (d == c) k (symbol_with ss c) (symbol_among ss (c ∷ [])) (one_of ss c each)
one_of ((d ∷ e ∷ ds, k) ∷ ss) c each = absurd (false≢true each)

-- where no symbol of two bytes begins with the byte
alone_is : (bytes : List ℕ) → 0 < length bytes → begins_one (symbols_of_length 2) (slice_index bytes 0) ≡ false → symbol_front 1 (symbol_with (symbols_of_length 1) (slice_index bytes 0)) Neither ≡ symbol_among all_symbols bytes
alone_is bytes some none =
    one_of (symbols_of_length 1) (slice_index bytes 0) refl
    ∙ by_length bytes (slice_index bytes 1) None some refl (sym (no_symbol (symbols_of_length 2) (slice_index bytes 0) (slice_index bytes 1 ∷ []) refl none))

-- ---- names

name_is : (bytes : List ℕ) → 0 < length bytes → is_ascii_alphabetic (slice_index bytes 0) ≡ true → words_with_first (slice_index bytes 0) ≡ []
    → Longest (prefix_len is_word_byte bytes) (NameOf (take (prefix_len is_word_byte bytes) bytes)) ≡ word_at (prefix_len is_word_byte bytes) bytes
name_is [] some letter none = absurd (omega arith)
name_is (c ∷ s) some letter none =
    let run = prefix_len-first is_word_byte c s (rw letter refl) in
    let word = take (prefix_len is_word_byte (c ∷ s)) (c ∷ s) in
    ap (Longest (prefix_len is_word_byte (c ∷ s)))
    (sym (word_among-first c word (word_begins (c ∷ s) some letter) (get_or-take (prefix_len is_word_byte (c ∷ s)) (c ∷ s) 0 0 run.0) ∙ ap (λ ws. word_among ws word) none))

-- ---- all classes

-- the class by the tests of the byte
abbrev class_by : Bool → Bool → Bool → List (List ℕ × Word) → Bool → Bool → Option Symbol → Class
class_by blank comment letter words digit pair symbol =
    cond blank classes.Blank (cond comment classes.Comment (cond letter (letter_class words) (cond digit classes.Digit (cond pair classes.Pair (option_map_or classes.Alone symbol classes.Nothing)))))

by_tests : (bytes : List ℕ) (blank comment letter : Bool) (words : List (List ℕ × Word)) (digit pair : Bool) (symbol : Option Symbol)
    → (letter ≡ true → words ≡ [] → front_of_class classes.Name bytes ≡ word_at (prefix_len is_word_byte bytes) bytes)
    → (pair ≡ false → symbol_front 1 symbol Neither ≡ symbol_among all_symbols bytes)
    → front_of_class (class_by blank comment letter words digit pair symbol) bytes
    ≡ cond blank (Between 1) (cond comment (Between (prefix_len is_comment_byte bytes)) (cond letter (word_at (prefix_len is_word_byte bytes) bytes) (cond digit (number_at (prefix_len is_ascii_digit bytes) bytes) (symbol_among all_symbols bytes))))
by_tests bytes true comment letter words digit pair symbol name alone = refl
by_tests bytes false true letter words digit pair symbol name alone = refl
by_tests bytes false false true [] digit pair symbol name alone = name refl refl
by_tests bytes false false true (w ∷ ws) digit pair symbol name alone = refl
by_tests bytes false false false words true pair symbol name alone = refl
by_tests bytes false false false words false true symbol name alone = refl
by_tests bytes false false false words false false None name alone = alone refl
by_tests bytes false false false words false false (Some s) name alone = alone refl

-- the class of the first byte decides what bytes begin with
pub class-front : (bytes : List ℕ) (class : Class) → 0 < length bytes → class ≡ class_of (slice_index bytes 0) → front_of_class class bytes ≡ front_at bytes
class-front bytes class some is =
    let c = slice_index bytes 0 in
    ap (λ k. front_of_class k bytes) is
    ∙ by_tests bytes (is_blank c) (c == 35) (is_ascii_alphabetic c) (words_with_first c) (is_ascii_digit c) (begins_one (symbols_of_length 2) c) (symbol_with (symbols_of_length 1) c) (name_is bytes some) (alone_is bytes some)

-- a byte that begins a word is a letter, and so a byte of words
abbrev pub begins_word : Class → Bool
begins_word classes.Name = true
begins_word classes.Word = true
begins_word _ = false

letter_by : (blank comment letter : Bool) (words : List (List ℕ × Word)) (digit pair : Bool) (symbol : Option Symbol) → begins_word (class_by blank comment letter words digit pair symbol) ≡ true → letter ≡ true
letter_by true comment letter words digit pair symbol e = absurd (false≢true e)
letter_by false true letter words digit pair symbol e = absurd (false≢true e)
letter_by false false true words digit pair symbol e = refl
letter_by false false false words true pair symbol e = absurd (false≢true e)
letter_by false false false words false true symbol e = absurd (false≢true e)
letter_by false false false words false false None e = absurd (false≢true e)
letter_by false false false words false false (Some s) e = absurd (false≢true e)

pub letter_first : (c : ℕ) (class : Class) → class ≡ class_of c → begins_word class ≡ true → is_ascii_alphabetic c ≡ true
letter_first c class is begins =
    letter_by (is_blank c) (c == 35) (is_ascii_alphabetic c) (words_with_first c) (is_ascii_digit c) (begins_one (symbols_of_length 2) c) (symbol_with (symbols_of_length 1) c) (ap begins_word (sym is) ∙ begins)

pub word_byte_first : (c : ℕ) (class : Class) → class ≡ class_of c → begins_word class ≡ true → is_word_byte c ≡ true
word_byte_first c class is begins = rw (letter_first c class is begins) refl

-- a byte that begins a number is a digit
abbrev begins_number : Class → Bool
begins_number classes.Digit = true
begins_number _ = false

digit_by : (blank comment letter : Bool) (words : List (List ℕ × Word)) (digit pair : Bool) (symbol : Option Symbol) → begins_number (class_by blank comment letter words digit pair symbol) ≡ true → digit ≡ true
digit_by true comment letter words digit pair symbol e = absurd (false≢true e)
digit_by false true letter words digit pair symbol e = absurd (false≢true e)
digit_by false false true [] digit pair symbol e = absurd (false≢true e)
digit_by false false true (w ∷ ws) digit pair symbol e = absurd (false≢true e)
digit_by false false false words true pair symbol e = refl
digit_by false false false words false true symbol e = absurd (false≢true e)
digit_by false false false words false false None e = absurd (false≢true e)
digit_by false false false words false false (Some s) e = absurd (false≢true e)

pub digit_first : (c : ℕ) → classes.Digit ≡ class_of c → is_ascii_digit c ≡ true
digit_first c is =
    digit_by (is_blank c) (c == 35) (is_ascii_alphabetic c) (words_with_first c) (is_ascii_digit c) (begins_one (symbols_of_length 2) c) (symbol_with (symbols_of_length 1) c) (ap begins_number (sym is))
