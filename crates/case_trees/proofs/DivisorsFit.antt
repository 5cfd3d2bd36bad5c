-- Steps of the greatest common divisor, signs of divisors, and how large quotients are.
use Rattle.std.proofs.Common.{◌≡◌, ◌≢◌, ℕ, zero, suc, ◌%◌, ◌/◌, ◌<◌, ◌≤◌, ℤ, pos, negsuc, neg_ℤ, ◌≤ℤ◌, ◌<ℤ◌, int_div, true, refl, arith}
use Rattle.std.proofs.lemmas.Int.{ints}
use Rattle.std.proofs.Math.Nat.{div-le_self, mod-lt}
use Rattle.tree_laws.specs.LinearSums.{SumAtom, SumTerms, Term, gcd_within, gcd, signed_by}
use Rattle.tree_laws.specs.Limits.{up_to}
use Rattle.case_trees.proofs.RoomForSums.{UpTo, true-up_to, up_to-true}

-- steps beyond the second number change nothing
gcd_steps : (m n a b : ℕ) → b < m → b < n → gcd_within m a b ≡ gcd_within n a b
unfolding gcd_within
gcd_steps zero n a b h i = absurd (omega arith)
gcd_steps m zero a b h i = absurd (omega arith)
gcd_steps (suc m) (suc n) a zero h i = refl
gcd_steps (suc m) (suc n) a (suc b) h i = let r : a % suc b < suc b = mod-lt a (omega arith) in gcd_steps m n (suc b) (a % suc b) (omega arith) (omega arith)

pub gcd-zero : (a b : ℕ) → b ≡ 0 → a ≡ gcd a b
unfolding gcd_within
gcd-zero a zero e = refl
gcd-zero a (suc b) e = absurd (omega arith)

pub gcd-step : (a b : ℕ) → b ≢ 0 → gcd b (a % b) ≡ gcd a b
unfolding gcd_within
gcd-step a zero h = absurd (h refl)
gcd-step a (suc b) h = let r : a % suc b < suc b = mod-lt a (omega arith) in gcd_steps (suc (a % suc b)) (suc b) (suc b) (a % suc b) (omega arith) (omega arith)

pub signed-minus : (c : ℤ) (a : SumAtom) (ts : SumTerms) (g : ℕ) → c <ℤ pos 0 → neg_ℤ (pos g) ≡ signed_by (Term c a ts) g
signed-minus (pos n) a ts g h = absurd (omega (arith, ints))
signed-minus (negsuc n) a ts g h = refl

pub signed-plus : (c : ℤ) (a : SumAtom) (ts : SumTerms) (g : ℕ) → pos 0 ≤ℤ c → pos g ≡ signed_by (Term c a ts) g
signed-plus (pos n) a ts g h = refl
signed-plus (negsuc n) a ts g h = absurd (omega (arith, ints))

less : (a b : ℕ) → a / b ≤ a
less a b = div-le_self a b

pub quotient-up_to : (n : ℕ) (c d : ℤ) → UpTo n c → UpTo n (int_div c d)
quotient-up_to n (pos a) (pos b) h = let h1 = h.high in let l = less a b in record { low = omega (arith, ints); high = omega (arith, ints) }
quotient-up_to n (pos a) (negsuc b) h = let h1 = h.high in let l = less a (suc b) in record { low = omega (arith, ints); high = omega (arith, ints) }
quotient-up_to n (negsuc a) (pos b) h = let h1 = h.low in let l = less (suc a) b in record { low = omega (arith, ints); high = omega (arith, ints) }
quotient-up_to n (negsuc a) (negsuc b) h = let h1 = h.low in let l = less (suc a) (suc b) in record { low = omega (arith, ints); high = omega (arith, ints) }

pub quotient-small : (n : ℕ) (c d : ℤ) → up_to n c ≡ true → up_to n (int_div c d) ≡ true
quotient-small n c d e = up_to-true n (int_div c d) (quotient-up_to n c d (true-up_to n c e))

pub quotient-none : (c d : ℤ) → d ≡ pos 0 → pos 0 ≡ int_div c d
quotient-none (pos a) (pos b) e = omega (arith, ints)
quotient-none (negsuc a) (pos b) e = omega (arith, ints)
quotient-none c (negsuc b) e = absurd (omega (arith, ints))

pub ruleset divisor_rules = (gcd-zero, gcd-step, signed-minus, signed-plus, quotient-small, quotient-none)
