-- A text that ends with a line feed is cut into the same tokens whatever comes after it, since no token holds a line feed. So no
-- canonical text is the front of another one that goes on with a letter.
use Rattle.std.proofs.Common.{◌≡◌, ℕ, zero, suc, ◌+◌, ◌-◌, ◌≤◌, ◌==◌, ◌&&◌, Bool, true, false, not, cond, if◌then◌else◌, nat_eq, List, [], ◌∷◌, ◌++◌, length, take, Result, Ok, Err, refl, sym, ap, ap₂, subst, ◌∙◌, arith}
use Rattle.std.proofs.lemmas.Bool.Decides.{nat_tests}
use Rattle.std.proofs.lemmas.List.Sums.{take_while-cons}
use Rattle.std.specs.Char.{is_ascii_digit, is_ascii_alphabetic}
use Rattle.std.specs.List.{AllByRecursion, take_while, starts_with, list_all}
use lib.Pointwise.{pointwise}
use Rattle.model_core.specs.declared.token.Symbol.{Symbol}
use Rattle.model_core.specs.Text.Lexing.{Lexeme, Mark, Front, Between, Longest, Neither, front, front_length, after_front, tokens_from, is_blank, is_word_byte, is_comment_byte, word_front, number_front, symbol_among, all_symbols}
use Rattle.model_core.proofs.BothTrue.{and_first, and_second}
use Rattle.model_core.proofs.EachOne.{every-passes}

-- ---- what a text begins with doesn't go past a line feed

taken_alone : (p : ℕ → Bool) (y r : List ℕ) → p 10 ≡ false → take_while p (y ++ 10 ∷ r) ≡ take_while p y
taken_alone p [] r stops = take_while-cons p 10 r ∙ ap (λ b. cond b (10 ∷ take_while p r) []) stops
taken_alone p (c ∷ y) r stops = take_while-cons p c (y ++ 10 ∷ r) ∙ ap (λ (ts : List ℕ). cond (p c) (c ∷ ts) []) (taken_alone p y r stops) ∙ sym (take_while-cons p c y)

-- no byte is a line feed
abbrev HasNoFeed : List ℕ → Bool
HasNoFeed bytes = list_all (λ b. not (b == 10)) bytes

not_feed : (b : ℕ) → not (b == 10) ≡ true → nat_eq b 10 ≡ false
not_feed b e = grind (arith, nat_tests, e)

begins_alone : (s y r : List ℕ) → HasNoFeed s ≡ true → starts_with nat_eq (y ++ 10 ∷ r) s ≡ starts_with nat_eq y s
begins_alone [] y r none = refl
begins_alone (b ∷ s) [] r none = ap (λ same. same && pointwise nat_eq s (take (length s) r)) (not_feed b (and_first (not (b == 10)) (HasNoFeed s) none))
begins_alone (b ∷ s) (c ∷ y) r none = ap (λ same. nat_eq b c && same) (begins_alone s y r (and_second (not (b == 10)) (HasNoFeed s) none))

symbols_alone : (ss : List (List ℕ × Symbol)) (y r : List ℕ) → AllByRecursion (λ (s : List ℕ × Symbol). HasNoFeed s.0 ≡ true) ss → symbol_among ss (y ++ 10 ∷ r) ≡ symbol_among ss y
symbols_alone [] y r all = refl
symbols_alone (s ∷ ss) y r (none, all) = ap₂ (λ b (f : Front). if b then Longest (length s.0) (Mark s.1) else f) (begins_alone s.0 y r none) (symbols_alone ss y r all)

front_alone : (c : ℕ) (y r : List ℕ) → front c (y ++ 10 ∷ r) ≡ front c y
front_alone c y r =
    let comment = taken_alone is_comment_byte (c ∷ y) r refl in
    let word = taken_alone is_word_byte (c ∷ y) r refl in
    let digits = taken_alone is_ascii_digit (c ∷ y) r refl in
    let symbols = symbols_alone all_symbols (c ∷ y) r (every-passes (λ (s : List ℕ × Symbol). HasNoFeed s.0) all_symbols refl) in
    ap₂ (λ (n : ℕ) (f : Front). if is_blank c then Between 1 else (if c == 35 then Between n else f)) (ap length comment)
    (ap₂ (λ (f k : Front). if is_ascii_alphabetic c then f else k) (ap word_front word)
    (ap₂ (λ (f k : Front). if is_ascii_digit c then f else k) (ap number_front digits) symbols))

-- ---- and it is no longer than the text

either : (P : Front → Type 0) (b : Bool) (x y : Front) → P x → P y → P (if b then x else y)
either P true x y p q = p
either P false x y p q = q

taken_short : (p : ℕ → Bool) (s : List ℕ) → length (take_while p s) ≤ length s
taken_short p [] = omega arith
taken_short p (c ∷ s) = subst (λ (ts : List ℕ). length ts ≤ suc (length s)) (sym (take_while-cons p c s)) (by (p c) (taken_short p s)) where
  by : (b : Bool) → length (take_while p s) ≤ length s → length (cond b (c ∷ take_while p s) []) ≤ suc (length s)
  by true short = omega (arith, short)
  by false short = omega arith

begun_short : (s text : List ℕ) → starts_with nat_eq text s ≡ true → length s ≤ length text
begun_short [] text e = omega arith
begun_short (b ∷ s) [] e = cc
begun_short (b ∷ s) (c ∷ text) e = let short = begun_short s text (and_second (nat_eq b c) _ e) in omega (arith, short)

symbol_short : (ss : List (List ℕ × Symbol)) (c : ℕ) (y : List ℕ) → front_length (symbol_among ss (c ∷ y)) ≤ suc (length y)
symbol_short [] c y = omega arith
symbol_short (s ∷ ss) c y = by (starts_with nat_eq (c ∷ y) s.0) refl (symbol_short ss c y) where
  by : (b : Bool) → starts_with nat_eq (c ∷ y) s.0 ≡ b → front_length (symbol_among ss (c ∷ y)) ≤ suc (length y) → front_length (if b then Longest (length s.0) (Mark s.1) else symbol_among ss (c ∷ y)) ≤ suc (length y)
  by true is later = begun_short s.0 (c ∷ y) is
  by false is later = later

front_short : (c : ℕ) (y : List ℕ) → front_length (front c y) ≤ suc (length y)
front_short c y =
    let Short : Front → Type 0 = λ f. front_length f ≤ suc (length y) in
    either Short (is_blank c) _ _ (omega arith)
    (either Short (c == 35) _ _ (taken_short is_comment_byte (c ∷ y))
    (either Short (is_ascii_alphabetic c) _ _ (taken_short is_word_byte (c ∷ y))
    (either Short (is_ascii_digit c) _ _ (taken_short is_ascii_digit (c ∷ y)) (symbol_short all_symbols c y))))

-- ---- the tokens

-- tokens, and those after them
abbrev pub then_tokens : Result (List Lexeme) ℕ → Result (List Lexeme) ℕ → Result (List Lexeme) ℕ
then_tokens (Ok own) (Ok later) = Ok (own ++ later)
then_tokens (Ok own) (Err place) = Err place
then_tokens (Err place) later = Err place

none_before : (later : Result (List Lexeme) ℕ) → later ≡ then_tokens (Ok []) later
none_before (Ok tokens) = refl
none_before (Err place) = refl

after_joined : (at : ℕ) (f : Front) (own later : Result (List Lexeme) ℕ) → after_front at f (then_tokens own later) ≡ then_tokens (after_front at f own) later
after_joined at (Between n) own later = refl
after_joined at (Longest n k) (Ok own) (Ok later) = refl
after_joined at (Longest n k) (Ok own) (Err place) = refl
after_joined at (Longest n k) (Err place) later = refl
after_joined at Neither own later = refl

pub cut_apart : (at inside : ℕ) (y r : List ℕ) → inside ≤ length y → tokens_from at inside (y ++ 10 ∷ r) ≡ then_tokens (tokens_from at inside (y ++ 10 ∷ [])) (tokens_from (at + length y + 1) 0 r)
cut_apart at zero [] r within = let place : at + 1 ≡ at + 0 + 1 = omega arith in none_before (tokens_from (at + 1) 0 r) ∙ ap (λ n. then_tokens (Ok []) (tokens_from n 0 r)) place
cut_apart at (suc inside) [] r within = absurd (omega (arith, within))
cut_apart at (suc inside) (c ∷ y) r within =
    let place : at + 1 + length y + 1 ≡ at + suc (length y) + 1 = omega arith in
    cut_apart (at + 1) inside y r (omega (arith, within)) ∙ ap (λ n. then_tokens (tokens_from (at + 1) inside (y ++ 10 ∷ [])) (tokens_from n 0 r)) place
cut_apart at zero (c ∷ y) r within =
    let f = front c y in
    let short = front_short c y in
    let place : at + 1 + length y + 1 ≡ at + suc (length y) + 1 = omega arith in
    ap (λ (f : Front). after_front at f (tokens_from (at + 1) (front_length f - 1) (y ++ 10 ∷ r))) (front_alone c y r)
    ∙ ap (after_front at f) (cut_apart (at + 1) (front_length f - 1) y r (omega (arith, short)))
    ∙ after_joined at f (tokens_from (at + 1) (front_length f - 1) (y ++ 10 ∷ [])) (tokens_from (at + 1 + length y + 1) 0 r)
    ∙ ap₂ (λ (g : Front) n. then_tokens (after_front at g (tokens_from (at + 1) (front_length g - 1) (y ++ 10 ∷ []))) (tokens_from n 0 r)) (sym (front_alone c y [])) place
