-- Quotients rounded down, and comparisons of multiples.
use Rattle.std.proofs.Common.{◌≡◌, ℕ, zero, suc, ◌/◌, ◌%◌, ◌<◌, ℤ, pos, negsuc, ◌+ℤ◌, ◌-ℤ◌, ◌*ℤ◌, ◌≤ℤ◌, ◌<ℤ◌, neg_ℤ, int_le, Bool, true, false, not, refl, ap, sym, ◌∙◌, arith}
use Rattle.std.proofs.lemmas.Int.{ints}
use Rattle.std.proofs.Math.IntN.{pos-*ℤ-pos, pos-*ℤ-negsuc, negsuc-*ℤ-pos, negsuc-*ℤ-negsuc, *ℤ-zero}
use Rattle.std.proofs.Math.Nat.{mod-lt}
use Rattle.sig_base.proofs.Tests.{true-int_le, int_le-true}
use Rattle.tree_laws.specs.TreeConditions.{floor_div}
use Rattle.tree_laws.proofs.WholeNumbers.{times-add}
use Rattle.tree_laws.proofs.Intervals.{times_up}

-- a test that is true exactly where another one is
pub same_test : (s t : Bool) → (s ≡ true → t ≡ true) → (t ≡ true → s ≡ true) → s ≡ t
same_test true t to from = sym (to refl)
same_test false true to from = from refl
same_test false false to from = refl

floor-low : (d : ℤ) (g : ℕ) → (pos (suc g) *ℤ floor_div d (suc g)) ≤ℤ d
floor-low (pos a) g = let whole = pos-*ℤ-pos (suc g) (a / suc g) in omega (arith, ints)
floor-low (negsuc a) g =
    let whole = pos-*ℤ-negsuc (suc g) (a / suc g) in
    let small : a % suc g < suc g = mod-lt a (omega arith) in
    omega (arith, ints)

floor-high : (d : ℤ) (g : ℕ) → d <ℤ (pos (suc g) *ℤ floor_div d (suc g) +ℤ pos (suc g))
floor-high (pos a) g =
    let whole = pos-*ℤ-pos (suc g) (a / suc g) in
    let small : a % suc g < suc g = mod-lt a (omega arith) in
    omega (arith, ints)
floor-high (negsuc a) g = let whole = pos-*ℤ-negsuc (suc g) (a / suc g) in omega (arith, ints)

one_more : (g : ℕ) (q : ℤ) → pos (suc g) *ℤ (q +ℤ pos 1) ≡ pos (suc g) *ℤ q +ℤ pos (suc g)
one_more g q = let split = times-add (pos (suc g)) q (pos 1) in let one : pos (suc g) *ℤ pos 1 ≡ pos (suc g) = omega (arith, ints) in omega (arith, ints)

-- P is at most the quotient exactly where the multiple of P is at most d
pub floor-test : (d p : ℤ) (g : ℕ) → int_le p (floor_div d (suc g)) ≡ int_le (pos (suc g) *ℤ p) d
floor-test d p g =
    let q = floor_div d (suc g) in
    same_test (int_le p q) (int_le (pos (suc g) *ℤ p) d)
    (λ e.
    let least = times_up (suc g) p q (true-int_le p q e) in
    let low = floor-low d g in
    int_le-true (pos (suc g) *ℤ p) d (omega (arith, ints)))
    (λ e. by (int_le p q) refl (true-int_le (pos (suc g) *ℤ p) d e)) where
      by : (b : Bool) → int_le p (floor_div d (suc g)) ≡ b → (pos (suc g) *ℤ p) ≤ℤ d → b ≡ true
      by true e f = refl
      by false e f =
          let q = floor_div d (suc g) in
          let above : (q +ℤ pos 1) ≤ℤ p = grind (arith, ints) in
          let more = times_up (suc g) (q +ℤ pos 1) p above in
          let step = one_more g q in
          let high = floor-high d g in
          absurd (omega (arith, ints))

negative_multiple : (g : ℕ) (p : ℤ) → negsuc g *ℤ p ≡ pos (suc g) *ℤ neg_ℤ p
negative_multiple g (pos zero) = *ℤ-zero (negsuc g) ∙ sym (*ℤ-zero (pos (suc g)))
negative_multiple g (pos (suc n)) = negsuc-*ℤ-pos g (suc n) ∙ sym (pos-*ℤ-negsuc (suc g) n)
negative_multiple g (negsuc n) = negsuc-*ℤ-negsuc g n ∙ sym (pos-*ℤ-pos (suc g) (suc n))

-- the same of a negative multiple: P is at least what the quotient isn't above
pub floor-opposite : (d p : ℤ) (g : ℕ) → not (int_le p (neg_ℤ (floor_div d (suc g)) -ℤ pos 1)) ≡ int_le (negsuc g *ℤ p) d
floor-opposite d p g =
    let q = floor_div d (suc g) in
    turned p q ∙ floor-test d (neg_ℤ p) g ∙ ap (λ x. int_le x d) (sym (negative_multiple g p)) where
      turned : (p q : ℤ) → not (int_le p (neg_ℤ q -ℤ pos 1)) ≡ int_le (neg_ℤ p) q
      turned p q = grind (arith, ints)
