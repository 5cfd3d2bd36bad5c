-- Texts of one token: a name, a number, a reserved word or a symbol, and which of them are tokens of their own side by side.
use Rattle.std.proofs.Common.{◌≡◌, ℕ, suc, zero, ◌+◌, ◌-◌, ◌^◌, ◌<◌, ◌≤◌, true, false, List, [], ◌∷◌, ◌++◌, length, map, refl, sym, ap, ◌∙◌, subst, arith, get_or}
use Rattle.std.specs.Prelude.{pos, Some, None, if◌then◌else◌, nat_lt, decimal, codes}
use Rattle.std.specs.List.{AllByRecursion, list_all}
use Rattle.std.specs.Char.{is_ascii_digit, is_ascii_alphabetic}
use Rattle.std.specs.Int.Digits.{digits_of, number_from_digits, AllBelowBase}
use Rattle.std.proofs.lemmas.Fmt.{decimal-digits_of}
use Rattle.std.proofs.lemmas.Int.Digits.{number_digits_of, all_below_base_digits_of, first_digits_of}
use Rattle.std.specs.Fmt.{digits}
use Rattle.std.proofs.lemmas.Grind.{common_steps}
use Rattle.sig_base.specs.declared.limits.TheConstants.{OPENINGS_MAX}
use Rattle.model_core.specs.declared.token.Word.{Word}
use Rattle.model_core.specs.declared.token.Symbol.{Symbol}
use Rattle.model_core.specs.declared.token.Symbol.TheVariants as symbols
use Rattle.model_core.specs.Text.Lexing.{Lexeme, LexemeKind, NameOf, Reserved, NumberOf, Mark, Longest, front, is_word_byte, word_among, reserved_words, word_front, digits_value, literal_value}
use Rattle.model_core.specs.Text.Openings.{ends_part, is_opening}
use Rattle.model_core.specs.Text.Format.{Single, TokenSort, AName, ANumber, AWord, ASymbol, sort_as, mark, reserved, any_name, any_number}
use Rattle.model_core.specs.Text.Spellable.{IsName}
use Rattle.model_core.proofs.EachOne.{every-passes}
use Rattle.text_laws.specs.OpeningCount.{deep_from}
use Rattle.round_trip.proofs.TokenSteps.{Lexes-token, token}
use Rattle.round_trip.proofs.LongestTokens.{Ends, front_name, front_digits, front_word, take_while_word}
use Rattle.round_trip.proofs.Writing.{Writes, Any}

-- a token of this kind takes the openings that are left from i to j
pub record Passes (k : LexemeKind) (i j : ℕ) : Type 0 where
  pub passes : (from to : ℕ) (left : List Lexeme) → deep_from OPENINGS_MAX i (token from to k ∷ left) ≡ deep_from OPENINGS_MAX j left

pub neither : (k : LexemeKind) (i : ℕ) → ends_part k ≡ false → is_opening k ≡ false → Passes k i i
neither k zero e o = record { passes = λ from to left. rw (e, o) refl }
neither k (suc i) e o = record { passes = λ from to left. rw (e, o) refl }

-- one token, of which a value is made
pub writes-token : {A : Type 0} (s : TokenSort) (f : Lexeme → A) (G : A → Type 0) (c : ℕ) (w : List ℕ) (k : LexemeKind) (F : List ℕ → Type 0) {i j : ℕ}
    → ((rest : List ℕ) → F rest → front c (w ++ rest) ≡ Longest (suc (length w)) k) → sort_as s k ≡ s → Passes k i j → ((from to : ℕ) → G (f (token from to k))) → Writes (Single s f) (c ∷ w) F i j G
writes-token s f G c w k F is same pass makes = record {
  run = λ at.
      let to = at + suc (length w) in (
        f (token at to k),
        token at to k ∷ [],
        makes at to,
        λ left. (pass.passes at to left, (same, refl, refl)),
        λ rest left h lexed. Lexes-token at c w rest k left (is rest h) lexed,
      );
}

-- ---- names and reserved words

pub writes-name : {i : ℕ} (n : List ℕ) → IsName n → Writes any_name n Ends i i (λ w. w.name ≡ n)
writes-name [] h = absurd h.begins
writes-name {i} (c ∷ w) h = writes-token AName _ (λ x. x.name ≡ c ∷ w) c w (NameOf (c ∷ w)) Ends (λ rest e. front_name c w rest h e) refl (neither (NameOf (c ∷ w)) i refl refl) (λ from to. refl)

front_reserved : (c : ℕ) (w rest : List ℕ) (k : Word) → is_ascii_alphabetic c ≡ true → list_all is_word_byte (c ∷ w) ≡ true → word_among reserved_words (c ∷ w) ≡ Reserved k → Ends rest
    → front c (w ++ rest) ≡ Longest (suc (length w)) (Reserved k)
front_reserved c w rest k letter all is e =
    front_word c (w ++ rest) letter ∙ ap word_front (take_while_word (c ∷ w) rest (every-passes is_word_byte (c ∷ w) all) e) ∙ ap (Longest (suc (length w))) is

-- these bytes are the reserved word
pub record IsWord (c : ℕ) (w : List ℕ) (k : Word) : Type 0 where
  pub letter : is_ascii_alphabetic c ≡ true
  pub all : list_all is_word_byte (c ∷ w) ≡ true
  pub is : word_among reserved_words (c ∷ w) ≡ Reserved k

pub writes-word : {A : Type 0} (f : Lexeme → A) (G : A → Type 0) (c : ℕ) (w : List ℕ) (k : Word) {i j : ℕ} → IsWord c w k → Passes (Reserved k) i j → ((from to : ℕ) → G (f (token from to (Reserved k)))) → Writes (Single (AWord k) f) (c ∷ w) Ends i j G
writes-word f G c w k h pass makes = writes-token (AWord k) f G c w (Reserved k) Ends (λ rest e. front_reserved c w rest k h.letter h.all h.is e) refl pass makes

-- a reserved word that is no opening
pub a_word : {i : ℕ} (c : ℕ) (w : List ℕ) (k : Word) → IsWord c w k → is_opening (Reserved k) ≡ false → Writes (reserved k) (c ∷ w) Ends i i (λ at. Unit {0})
a_word {i} c w k h o = writes-word (λ t. t.from) (λ at. Unit {0}) c w k h (neither (Reserved k) i refl o) (λ from to. tt)

-- ---- symbols

pub writes-symbol : {A : Type 0} (f : Lexeme → A) (G : A → Type 0) (c : ℕ) (w : List ℕ) (k : Symbol) (F : List ℕ → Type 0) {i j : ℕ} → ((rest : List ℕ) → F rest → front c (w ++ rest) ≡ Longest (suc (length w)) (Mark k)) → Passes (Mark k) i j → ((from to : ℕ) → G (f (token from to (Mark k))))
    → Writes (Single (ASymbol k) f) (c ∷ w) F i j G
writes-symbol f G c w k F is pass makes = writes-token (ASymbol k) f G c w (Mark k) F is refl pass makes

-- a symbol that neither opens nor ends, and with which no longer one begins
pub a_mark : {i : ℕ} (c : ℕ) (w : List ℕ) (k : Symbol) → ((rest : List ℕ) → front c (w ++ rest) ≡ Longest (suc (length w)) (Mark k)) → ends_part (Mark k) ≡ false → is_opening (Mark k) ≡ false → Writes (mark k) (c ∷ w) Any i i (λ at. Unit {0})
a_mark {i} c w k is e o = writes-symbol (λ t. t.from) (λ at. Unit {0}) c w k Any (λ rest h. is rest) (neither (Mark k) i e o) (λ from to. tt)

pub opens : (k : LexemeKind) (i : ℕ) → ends_part k ≡ false → is_opening k ≡ true → Passes k (suc i) i
opens k i e o = record { passes = λ from to left. rw (e, o) refl }

pub ends : (k : LexemeKind) (i : ℕ) → ends_part k ≡ true → Passes k i OPENINGS_MAX
ends k zero e = record { passes = λ from to left. rw e refl }
ends k (suc i) e = record { passes = λ from to left. rw e refl }

an_opening : {i : ℕ} (c : ℕ) (k : Symbol) → ((rest : List ℕ) → front c rest ≡ Longest 1 (Mark k)) → ends_part (Mark k) ≡ false → is_opening (Mark k) ≡ true → Writes (mark k) (c ∷ []) Any (suc i) i (λ at. Unit {0})
an_opening {i} c k is e o = writes-symbol (λ t. t.from) (λ at. Unit {0}) c [] k Any (λ rest h. is rest) (opens (Mark k) i e o) (λ from to. tt)

pub an_end : {i : ℕ} (c : ℕ) (k : Symbol) → ((rest : List ℕ) → front c rest ≡ Longest 1 (Mark k)) → ends_part (Mark k) ≡ true → Writes (mark k) (c ∷ []) Any i OPENINGS_MAX (λ at. Unit {0})
an_end {i} c k is e = writes-symbol (λ t. t.from) (λ at. Unit {0}) c [] k Any (λ rest h. is rest) (ends (Mark k) i e) (λ from to. tt)

pub open_text : {i : ℕ} → Writes (mark symbols.OpenParenthesis) (codes "(") Any (suc i) i (λ at. Unit {0})
open_text = an_opening 40 symbols.OpenParenthesis (λ rest. refl) refl refl

pub close_text : {i : ℕ} → Writes (mark symbols.CloseParenthesis) (codes ")") Any i i (λ at. Unit {0})
close_text = a_mark 41 [] symbols.CloseParenthesis (λ rest. refl) refl refl

pub bracket_text : {i : ℕ} → Writes (mark symbols.OpenBracket) (codes "[") Any (suc i) i (λ at. Unit {0})
bracket_text = an_opening 91 symbols.OpenBracket (λ rest. refl) refl refl

pub bracket_end : {i : ℕ} → Writes (mark symbols.CloseBracket) (codes "]") Any i i (λ at. Unit {0})
bracket_end = a_mark 93 [] symbols.CloseBracket (λ rest. refl) refl refl

pub bare_comma : {i : ℕ} → Writes (mark symbols.Comma) (codes ",") Any i i (λ at. Unit {0})
bare_comma = a_mark 44 [] symbols.Comma (λ rest. refl) refl refl

pub minus_text : {i : ℕ} → Writes (mark symbols.Minus) (codes "-") Any (suc i) i (λ at. Unit {0})
minus_text = an_opening 45 symbols.Minus (λ rest. refl) refl refl

pub semicolon_text : {i : ℕ} → Writes (mark symbols.Semicolon) (codes ";") Any i OPENINGS_MAX (λ at. Unit {0})
semicolon_text = an_end 59 symbols.Semicolon (λ rest. refl) refl

-- ---- numbers

-- the text has digits alone, at least one, and is read as this number
record IsNumeral (n : ℕ) (text : List ℕ) : Type 0 where
  pub all : AllByRecursion (λ x. is_ascii_digit x ≡ true) text
  pub some : text ≡ [] → ⊥
  pub value : literal_value text ≡ Some (pos n)

pub all_digits : (ds : List ℕ) → AllBelowBase 10 ds → AllByRecursion (λ x. is_ascii_digit x ≡ true) (map (λ d. 48 + d) ds)
all_digits [] h = tt
all_digits (d ∷ ds) h = let b : d < 10 = h.0 in let a : is_ascii_digit (48 + d) ≡ true = grind (arith, common_steps) in (a, all_digits ds h.1)

pub digits_back : (ds : List ℕ) → map (λ c. c - 48) (map (λ d. 48 + d) ds) ≡ ds
digits_back [] = refl
digits_back (d ∷ ds) = let e : (48 + d) - 48 ≡ d = omega arith in λ i. e i ∷ digits_back ds i

chosen : (m n : ℕ) → m ≡ n → n < 2 ^ 63 → (if nat_lt m (2 ^ 63) then Some (pos m) else None) ≡ Some (pos n)
chosen m n same h = let e : nat_lt m (2 ^ 63) ≡ true = grind (arith, common_steps) in rw (e, same)

pub some_digits : (ds : List ℕ) → 0 < get_or ds 0 0 → map (λ d. 48 + d) ds ≡ [] → ⊥
some_digits [] h e = absurd (omega arith)
some_digits (d ∷ ds) h e = cc

numeral_of_digits : (n : ℕ) → 0 < n → n < 2 ^ 63 → IsNumeral n (map (λ d. 48 + d) (digits_of 10 n))
numeral_of_digits n h l =
    let two : 2 ≤ 10 = omega arith in
    let back : number_from_digits 10 (map (λ c. c - 48) (map (λ d. 48 + d) (digits_of 10 n))) ≡ n = ap (number_from_digits 10) (digits_back (digits_of 10 n)) ∙ number_digits_of 10 n two in
    record {
      all = all_digits (digits_of 10 n) (all_below_base_digits_of 10 n two);
      some = some_digits (digits_of 10 n) (first_digits_of 10 n two h);
      value = chosen (number_from_digits 10 (map (λ c. c - 48) (map (λ d. 48 + d) (digits_of 10 n)))) n back l;
    }

numeral_zero : IsNumeral 0 (decimal 0)
unfolding digits
numeral_zero = record { all = (refl, tt); some = λ e. cc; value = refl }

numeral_decimal : (n : ℕ) → n < 2 ^ 63 → IsNumeral n (decimal n)
numeral_decimal zero l = numeral_zero
numeral_decimal (suc n) l =
    let small : suc n < 2 ^ 64 = omega arith in let positive : 0 < suc n = omega arith in
    subst (λ (t : List ℕ). IsNumeral (suc n) t) (sym (decimal-digits_of (suc n) positive small)) (numeral_of_digits (suc n) positive l)

writes-numeral : {i : ℕ} (n : ℕ) (text : List ℕ) → IsNumeral n text → Writes any_number text Ends i i (λ v. v.value ≡ Some (pos n))
writes-numeral n [] h = absurd (h.some refl)
writes-numeral {i} n (c ∷ w) h = writes-token ANumber _ (λ v. v.value ≡ Some (pos n)) c w (NumberOf (Some (pos n)) (digits_value (c ∷ w))) Ends (λ rest e. front_digits c w rest h.all e ∙ ap (λ v. Longest (suc (length w)) (NumberOf v (digits_value (c ∷ w)))) h.value) refl (neither (NumberOf (Some (pos n)) (digits_value (c ∷ w))) i refl refl) (λ from to. refl)

pub writes-number : {i : ℕ} (n : ℕ) → n < 2 ^ 63 → Writes any_number (decimal n) Ends i i (λ v. v.value ≡ Some (pos n))
writes-number n l = writes-numeral n (decimal n) (numeral_decimal n l)

pub two_text : {i : ℕ} → Writes any_number (codes "2") Ends i i (λ v. v.value ≡ Some (pos 2))
two_text = writes-numeral 2 (codes "2") (record { all = (refl, tt); some = λ e. cc; value = refl })
