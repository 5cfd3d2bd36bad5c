-- Numbers whose value is what their digits write, however great, and carried values.
use Rattle.std.proofs.Common.{◌≡◌, ℕ, zero, suc, ◌+◌, ◌^◌, ◌<◌, ◌≤◌, ℤ, pos, negsuc, neg_ℤ, true, List, [], ◌∷◌, map, refl, sym, ap, ◌∙◌, subst, arith}
use Rattle.std.specs.Prelude.{decimal}
use Rattle.std.specs.List.{AllByRecursion}
use Rattle.std.specs.Fmt.{signed_decimal, digits}
use Rattle.std.specs.Char.{is_ascii_digit}
use Rattle.std.specs.Int.Digits.{digits_of, number_from_digits}
use Rattle.std.proofs.lemmas.Int.{ints}
use Rattle.std.proofs.lemmas.Fmt.{decimal-digits_of}
use Rattle.std.proofs.lemmas.Int.Digits.{number_digits_of, all_below_base_digits_of, first_digits_of}
use Rattle.model_core.specs.Text.Lexing.{NumberOf, digits_value, literal_value}
use Rattle.model_core.specs.Text.Format.{ANumber, number_exact}
use Rattle.model_core.specs.Text.Spellable.{sign_openings}
use Rattle.round_trip.proofs.LongestTokens.{Ends, front_digits}
use Rattle.round_trip.proofs.Writing.{Writes, Takes, takes, writes-then, writes-made, writes-room, writes-left, writes-right}
use Rattle.round_trip.proofs.OneToken.{writes-token, neither, minus_text, all_digits, digits_back, some_digits}
use Rattle.model_core.specs.Saved.SavedRun.{IsWide}
use Rattle.model_core.specs.Text.SnapshotGrammar.{exact_format, carried_format}
use Rattle.model_core.specs.Saved.GoodSnapshots.{carried_of}

-- the text has digits alone, at least one, and they write this number
record IsExact (n : ℕ) (text : List ℕ) : Type 0 where
  all : AllByRecursion (λ x. is_ascii_digit x ≡ true) text
  some : text ≡ [] → ⊥
  exact : digits_value text ≡ n

exact_of_digits : (n : ℕ) → 0 < n → IsExact n (map (λ d. 48 + d) (digits_of 10 n))
exact_of_digits n h =
    let two : 2 ≤ 10 = omega arith in
    record {
      all = all_digits (digits_of 10 n) (all_below_base_digits_of 10 n two);
      some = some_digits (digits_of 10 n) (first_digits_of 10 n two h);
      exact = ap (number_from_digits 10) (digits_back (digits_of 10 n)) ∙ number_digits_of 10 n two;
    }

exact_zero : IsExact 0 (decimal 0)
unfolding digits
exact_zero = record { all = (refl, tt); some = λ e. cc; exact = refl }

exact_decimal : (n : ℕ) → n < 2 ^ 64 → IsExact n (decimal n)
exact_decimal zero l = exact_zero
exact_decimal (suc n) l =
    let positive : 0 < suc n = omega arith in
    subst (λ (t : List ℕ). IsExact (suc n) t) (sym (decimal-digits_of (suc n) positive l)) (exact_of_digits (suc n) positive)

writes-digits : {i : ℕ} (n : ℕ) (text : List ℕ) → IsExact n text → Writes exact_format text Ends i i (λ m. m ≡ n)
unfolding exact_format
writes-digits n [] h = absurd (h.some refl)
writes-digits {i} n (c ∷ w) h =
    writes-token ANumber (λ t. number_exact t.kind) (λ m. m ≡ n) c w (NumberOf (literal_value (c ∷ w)) (digits_value (c ∷ w))) Ends (λ rest e. front_digits c w rest h.all e) refl (neither (NumberOf (literal_value (c ∷ w)) (digits_value (c ∷ w))) i refl refl) (λ from to. h.exact)

pub writes-exact : {i : ℕ} (n : ℕ) → n < 2 ^ 64 → Writes exact_format (decimal n) Ends i i (λ m. m ≡ n)
writes-exact n l = writes-digits n (decimal n) (exact_decimal n l)

pub carried-writes : (z : ℤ) → IsWide z → (j : ℕ) → Writes carried_format (signed_decimal z) Ends (sign_openings z + j) j (λ c. carried_of c ≡ z)
unfolding carried_format
carried-writes (pos n) w j = writes-room (omega arith) (writes-right (writes-made _ (writes-exact n (omega (arith, ints, w.greatest))) (λ m e. ap pos e)))
carried-writes (negsuc n) w j =
    writes-room (omega arith) (writes-left (writes-then (writes-made (λ at m. record { negative = true; exact = m }) {J = Takes (λ m. m ≡ suc n) (λ c. carried_of c ≡ negsuc n)} minus_text (λ at u. takes (λ m e. ap (λ k. neg_ℤ (pos k)) e))) (λ rest i. tt) (writes-exact (suc n) (omega (arith, ints, w.least)))))
