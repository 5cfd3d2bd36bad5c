-- Divisors of lists of terms and of sums, and what they are multiples of.
use Rattle.std.proofs.Common.{◌≡◌, ℕ, zero, suc, ◌%◌, ◌<◌, ℤ, pos, negsuc, ◌*ℤ◌, neg_ℤ, int_div, int_rem, unsigned_abs, refl, ap, sym, ◌∙◌, subst, arith}
use Rattle.std.specs.Int.{IsGcd, ◌∣◌}
use Rattle.std.proofs.lemmas.Int.{ints, quot-rem}
use Rattle.std.proofs.lemmas.Nat.Gcd.{dvd_trans, mod-eq-zero_of_dvd, dvd_of_mod-eq-zero, IsGcd-from_mod, IsGcd-from_zero}
use Rattle.tree_laws.specs.LinearSums.{SumTerms, NoTerms, Term, LinearSum, gcd_within, gcd, terms_gcd, signed_by, divisor, sum_divisor, terms_divided, sum_divided, primitive}
use Rattle.tree_laws.specs.SumValues.{Valuation, atom_value, terms_value, sum_value}
use Rattle.std.proofs.Math.IntN.{*ℤ_comm, *ℤ-zero}
use Rattle.tree_laws.proofs.WholeNumbers.{times-add, times_assoc}
use Rattle.tree_laws.proofs.AddedSums.{term-value, no_terms-value}

pub gcd_within-IsGcd : (n a b : ℕ) → b < n → IsGcd a b (gcd_within n a b)
unfolding gcd_within
gcd_within-IsGcd zero a b h = absurd (omega arith)
gcd_within-IsGcd (suc n) a zero h = IsGcd-from_zero a 0 refl
gcd_within-IsGcd (suc n) a (suc b) h = IsGcd-from_mod a (suc b) (gcd_within n (suc b) (a % suc b)) (gcd_within-IsGcd n (suc b) (a % suc b) (omega arith))

gcd-IsGcd : (a b : ℕ) → IsGcd a b (gcd a b)
gcd-IsGcd a b = gcd_within-IsGcd (suc b) a b (omega arith)

-- g divides each coefficient
DividesEach : ℕ → SumTerms → Type 0
DividesEach g NoTerms = Unit {0}
DividesEach g (Term c a ts) = (g ∣ unsigned_abs c) × DividesEach g ts

divides_each-less : (h g : ℕ) (ts : SumTerms) → h ∣ g → DividesEach g ts → DividesEach h ts
unfolding DividesEach
divides_each-less h g NoTerms d each = tt
divides_each-less h g (Term c a ts) d each = (dvd_trans h d each.0, divides_each-less h g ts d each.1)

terms_gcd-divides : (ts : SumTerms) → DividesEach (terms_gcd ts) ts
unfolding DividesEach terms_gcd
terms_gcd-divides NoTerms = tt
terms_gcd-divides (Term c a ts) =
    let both = gcd-IsGcd (terms_gcd ts) (unsigned_abs c) in
    (both.1, divides_each-less (gcd (terms_gcd ts) (unsigned_abs c)) (terms_gcd ts) ts both.0 (terms_gcd-divides ts))

-- a number is the multiple of its divisor, whatever the divisor's sign
rest-zero : (c : ℤ) (g : ℕ) → g ∣ unsigned_abs c → (z : ℤ) → unsigned_abs z ≡ g → int_rem c z ≡ pos 0
rest-zero (pos n) g d z e = ap pos (ap (λ k. n % k) e ∙ mod-eq-zero_of_dvd g d)
rest-zero (negsuc n) g d z e = ap (λ k. neg_ℤ (pos k)) (ap (λ k. suc n % k) e ∙ mod-eq-zero_of_dvd g d)

pub multiple : (c z : ℤ) → unsigned_abs z ∣ unsigned_abs c → z *ℤ int_div c z ≡ c
multiple c z d =
    let whole = quot-rem c z in
    let none = rest-zero c (unsigned_abs z) d z refl in
    let turned = *ℤ_comm z (int_div c z) in
    omega (arith, ints)

signed-size : (ts : SumTerms) (g : ℕ) → unsigned_abs (signed_by ts g) ≡ g
signed-size NoTerms g = refl
signed-size (Term (pos n) a ts) g = refl
signed-size (Term (negsuc n) a ts) zero = refl
signed-size (Term (negsuc n) a ts) (suc g) = refl

one_times : (x : ℤ) → pos 1 *ℤ x ≡ x
one_times x = omega (arith, ints)

module _ (v : Valuation) where
  terms_divided-value : (z : ℤ) (ts : SumTerms) → DividesEach (unsigned_abs z) ts → z *ℤ terms_value v (terms_divided z ts) ≡ terms_value v ts
  unfolding DividesEach terms_divided
  terms_divided-value z NoTerms d = ap (λ x. z *ℤ x) (no_terms-value v) ∙ *ℤ-zero z ∙ sym (no_terms-value v)
  terms_divided-value z (Term c a ts) d =
      let q = int_div c z in
      let rest = terms_divided-value z ts d.1 in
      let all = term-value v c a ts in
      let part = ap (λ x. z *ℤ x) (term-value v q a (terms_divided z ts)) in
      let split = times-add z (q *ℤ atom_value v a) (terms_value v (terms_divided z ts)) in
      let first = times_assoc z q (atom_value v a) in
      let same = ap (λ x. x *ℤ atom_value v a) (multiple c z d.0) in
      omega (arith, ints)

  -- a list of terms is its divisor times its primitive list
  pub primitive-value : (ts : SumTerms) → divisor ts *ℤ terms_value v (primitive ts) ≡ terms_value v ts
  primitive-value ts = terms_divided-value (divisor ts) ts (subst (λ g. DividesEach g ts) (sym (signed-size ts (terms_gcd ts))) (terms_gcd-divides ts))

  -- a sum is its divisor times what is left of it
  pub sum_divided-value : (s : LinearSum) → sum_divisor s *ℤ sum_value v (sum_divided (sum_divisor s) s) ≡ sum_value v s
  sum_divided-value s =
      let g = gcd (terms_gcd s.terms) (unsigned_abs s.constant) in
      let both = gcd-IsGcd (terms_gcd s.terms) (unsigned_abs s.constant) in
      let size = sym (signed-size s.terms g) in
      let each = divides_each-less g (terms_gcd s.terms) s.terms both.0 (terms_gcd-divides s.terms) in
      let terms = terms_divided-value (sum_divisor s) s.terms (subst (λ g. DividesEach g s.terms) size each) in
      let constant = multiple s.constant (sum_divisor s) (subst (λ g. g ∣ unsigned_abs s.constant) size both.1) in
      let split = times-add (sum_divisor s) (terms_value v (terms_divided (sum_divisor s) s.terms)) (int_div s.constant (sum_divisor s)) in
      omega (arith, ints)

  one-divides : (ts : SumTerms) → DividesEach 1 ts
  unfolding DividesEach
  one-divides NoTerms = tt
  one-divides (Term c a ts) = (dvd_of_mod-eq-zero 1 (omega arith), one-divides ts)

  pub divided_by_one-value : (ts : SumTerms) → terms_value v (terms_divided (pos 1) ts) ≡ terms_value v ts
  divided_by_one-value ts =
      let whole = terms_divided-value (pos 1) ts (one-divides ts) in
      let one = one_times (terms_value v (terms_divided (pos 1) ts)) in
      omega (arith, ints)
