-- The front of bytes, and its length.
use Rattle.std.proofs.Common.{◌≡◌, ℕ, ◌<◌, ◌≤◌, Bool, true, false, cond, List, [], ◌∷◌, length, take, drop, refl, ap, ◌∙◌, arith, slice_index}
use Rattle.std.specs.Prelude.{◌==◌, nat_eq, nat_lt}
use Rattle.std.specs.List.{prefix_len, take_while, starts_with, list_all}
use Rattle.std.specs.Char.{is_ascii_digit, is_ascii_alphabetic}
use Rattle.std.proofs.lemmas.List.{length-take-le}
use Rattle.std.proofs.lemmas.List.Prefix.{front_fits}
use Rattle.std.proofs.lemmas.List.Sums.{prefix_len-le-length}
use Rattle.std.proofs.lemmas.Slice.Eq.{starts_is}
use Rattle.std.proofs.lemmas.Bool.{and_parts}
use Rattle.std.proofs.lemmas.Bool.Decides.{Decides-eqb, nat_tests}
use Rattle.model_core.specs.declared.token.Symbol.{Symbol}
use Rattle.model_core.specs.Text.Lexing.{Mark, NumberOf, Front, Between, Longest, front, front_length, is_blank, is_word_byte, is_comment_byte, reserved_words, all_symbols, word_among, symbol_among, digits_value, literal_value}
use Rattle.model_lex.specs.Inner.Fronts.{front_at}

length-take_while : (p : ℕ → Bool) (xs : List ℕ) → length (take_while p xs) ≡ prefix_len p xs
length-take_while p xs = length-take-le (prefix_len p xs) xs (prefix_len-le-length p xs)

-- the front with the lengths of its runs given
abbrev front_by : List ℕ → ℕ → ℕ → ℕ → Front
front_by bytes comment word digits =
    cond (is_blank (slice_index bytes 0)) (Between 1)
    (cond (slice_index bytes 0 == 35) (Between comment)
    (cond (is_ascii_alphabetic (slice_index bytes 0)) (Longest word (word_among reserved_words (take_while is_word_byte bytes)))
    (cond (is_ascii_digit (slice_index bytes 0)) (let run = take_while is_ascii_digit bytes in Longest digits (NumberOf (literal_value run) (digits_value run)))
    (symbol_among all_symbols bytes))))

pub front-front_at : (c : ℕ) (s : List ℕ) → front c s ≡ front_at (c ∷ s)
front-front_at c s =
    let bytes = c ∷ s in
    ap (λ n. front_by bytes n (length (take_while is_word_byte bytes)) (length (take_while is_ascii_digit bytes))) (length-take_while is_comment_byte bytes)
    ∙ ap (λ n. front_by bytes (prefix_len is_comment_byte bytes) n (length (take_while is_ascii_digit bytes))) (length-take_while is_word_byte bytes)
    ∙ ap (λ n. front_by bytes (prefix_len is_comment_byte bytes) (prefix_len is_word_byte bytes) n) (length-take_while is_ascii_digit bytes)

-- the front takes at least a byte, and no more than there are
abbrev pub Fits : List ℕ → Front → Type 0
Fits bytes f = (1 ≤ front_length f) × (front_length f ≤ length bytes)

by_test : (b : Bool) (x y : Front) (bytes : List ℕ) → (b ≡ true → Fits bytes x) → (b ≡ false → Fits bytes y) → Fits bytes (cond b x y)
by_test true x y bytes at_true at_false = at_true refl
by_test false x y bytes at_true at_false = at_false refl

-- a run that the first byte begins
pub prefix_len-first : (p : ℕ → Bool) (c : ℕ) (s : List ℕ) → p c ≡ true → (1 ≤ prefix_len p (c ∷ s)) × (prefix_len p (c ∷ s) ≤ length (c ∷ s))
prefix_len-first p c s passes =
    let le = prefix_len-le-length p (c ∷ s) in
    (rw passes (omega arith), le)

-- a word has a byte
pub word_begins : (bytes : List ℕ) → 0 < length bytes → is_ascii_alphabetic (slice_index bytes 0) ≡ true → 0 < length (take (prefix_len is_word_byte bytes) bytes)
word_begins [] some letter = absurd (omega arith)
word_begins (c ∷ s) some letter =
    let run = prefix_len-first is_word_byte c s (rw letter refl) in
    let same = length-take-le (prefix_len is_word_byte (c ∷ s)) (c ∷ s) run.1 in
    omega arith

-- each of these symbols has a byte
abbrev each_has_byte : List (List ℕ × Symbol) → Bool
each_has_byte ss = list_all (λ s. nat_lt 0 (length s.0)) ss

symbol_among-fits : (ss : List (List ℕ × Symbol)) (bytes : List ℕ) → each_has_byte ss ≡ true → 0 < length bytes → Fits bytes (symbol_among ss bytes)
symbol_among-fits [] bytes each some = (omega arith, omega arith)
symbol_among-fits (x ∷ ss) bytes each some =
    let parts = and_parts (nat_lt 0 (length x.0)) (each_has_byte ss) each in
    let has_byte : 0 < length x.0 = grind (arith, nat_tests) in
    by_test (starts_with nat_eq bytes x.0) (Longest (length x.0) (Mark x.1)) (symbol_among ss bytes) bytes
    (λ begins. (has_byte, front_fits bytes x.0 (drop (length x.0) bytes) ((starts_is Decides-eqb bytes x.0 (starts_with nat_eq bytes x.0) refl).0 begins)))
    (λ _. symbol_among-fits ss bytes parts.1 some)

pub front_at-fits : (bytes : List ℕ) → 0 < length bytes → Fits bytes (front_at bytes)
front_at-fits [] some = absurd (omega arith)
front_at-fits (c ∷ s) some =
    let bytes = c ∷ s in
    by_test (is_blank c) _ _ bytes (λ _. (omega arith, omega arith))
    (λ _. by_test (c == 35) _ _ bytes (λ hash. prefix_len-first is_comment_byte c s (grind (arith, nat_tests)))
    (λ _. by_test (is_ascii_alphabetic c) _ _ bytes (λ letter. prefix_len-first is_word_byte c s (rw letter refl))
    (λ _. by_test (is_ascii_digit c) _ _ bytes (λ digit. prefix_len-first is_ascii_digit c s digit)
    (λ _. symbol_among-fits all_symbols bytes refl some))))
