-- Numbers between ends: where they are added, multiplied and divided.
use Rattle.std.proofs.Common.{◌≡◌, ℕ, zero, suc, ◌≤◌, ◌<◌, ℤ, pos, negsuc, ◌+ℤ◌, ◌*ℤ◌, neg_ℤ, ◌≤ℤ◌, int_div, int_rem, unsigned_abs, int_le, true, false, Option, Some, None, refl, ap, arith}
use Rattle.std.specs.Int.{int_min, int_max}
use Rattle.std.specs.Ordering.{int_eq}
use Rattle.std.proofs.lemmas.Int.{ints, clamps}
use Rattle.std.proofs.Math.IntN.{zero-*ℤ, suc_ℤ-*ℤ, pred_ℤ-*ℤ}
use Rattle.sig_base.proofs.Tests.{int_le-true}
use Rattle.model_core.specs.Run.State.{within}
use Rattle.bound_laws.proofs.Soundness.Ends.{four_low, four_high, times_left, times_right, quot_left, quot_right, quot_size, size_low, size_high, size_in, rem_low, rem_high, rem_below_all, of_not_le}
use Rattle.tree_laws.specs.LinearSums.{Operation, Mul, Div, Rem}
use Rattle.tree_laws.specs.SumValues.{operation_value}
use Rattle.tree_laws.specs.Limits.{Interval}
use Rattle.tree_laws.specs.SumEnds.{met, times_ends, plus_ends, ends_of_four, ends_size, greatest_rest_by, operation_ends}
use Rattle.tree_laws.specs.Meaning.{Within}
use Rattle.tree_laws.proofs.Gives.{Gives, holds_cond}
use Rattle.tree_laws.proofs.SameSums.{true-int_eq}

pub within_one : (x : ℤ) → Within (record { lo = x; hi = x }) x
within_one x = record { low = omega (arith, ints); high = omega (arith, ints) }

-- between ends that are one number there is that number
pub one_number : (e : Interval) (x : ℤ) → Within e x → int_eq e.lo e.hi ≡ true → e.lo ≡ x
one_number e x w t = let same = true-int_eq e.lo e.hi t in omega (arith, ints, w.low, w.high)

pub met-within : (e : Interval) (o : Option Interval) (x : ℤ) → Within e x → Gives o (λ f. Within f x) → Within (met e o) x
met-within e None x w g = w
met-within e (Some f) x w g =
    let u : Within f x = g.gives f refl in
    holds_cond (λ e. Within e x) (int_le (int_max e.lo f.lo) (int_min e.hi f.hi)) _ e
    (λ t. record { low = omega (arith, ints, clamps, w.low, u.low); high = omega (arith, ints, clamps, w.high, u.high) })
    (λ t. w)

pub plus_ends-within : (e f : Interval) (x y : ℤ) → Within e x → Within f y → Within (plus_ends e f) (x +ℤ y)
plus_ends-within e f x y w u = record { low = omega (arith, ints, w.low, u.low); high = omega (arith, ints, w.high, u.high) }

pub times_up : (n : ℕ) (y z : ℤ) → y ≤ℤ z → (pos n *ℤ y) ≤ℤ (pos n *ℤ z)
times_up zero y z e = omega (arith, ints, zero-*ℤ y, zero-*ℤ z)
times_up (suc n) y z e = omega (arith, ints, times_up n y z e, suc_ℤ-*ℤ (pos n) y, suc_ℤ-*ℤ (pos n) z)

times_down : (n : ℕ) (y z : ℤ) → y ≤ℤ z → (negsuc n *ℤ z) ≤ℤ (negsuc n *ℤ y)
times_down zero y z e = omega (arith, ints, zero-*ℤ y, zero-*ℤ z, pred_ℤ-*ℤ (pos 0) y, pred_ℤ-*ℤ (pos 0) z)
times_down (suc n) y z e = omega (arith, ints, times_down n y z e, pred_ℤ-*ℤ (negsuc n) y, pred_ℤ-*ℤ (negsuc n) z)

pub times_ends-within : (c : ℤ) (e : Interval) (x : ℤ) → Within e x → Within (times_ends c e) (c *ℤ x)
times_ends-within (pos n) e x w = record { low = times_up n e.lo x w.low; high = times_up n x e.hi w.high }
times_ends-within (negsuc n) e x w = record { low = times_down n x e.hi w.high; high = times_down n e.lo x w.low }

-- ---- operations

abs_zero : (y : ℤ) → unsigned_abs y ≡ 0 → y ≡ pos 0
abs_zero (pos n) e = ap pos e
abs_zero (negsuc n) e = absurd (omega arith)

not_zero : (y : ℤ) → int_eq y (pos 0) ≡ false → 0 < unsigned_abs y
not_zero (pos zero) e = cc
not_zero (pos (suc n)) e = omega arith
not_zero (negsuc n) e = omega arith

product-within : (a b : Interval) (x y : ℤ) → Within a x → Within b y → Within (ends_of_four (λ x y. x *ℤ y) a b) (x *ℤ y)
product-within a b x y w u =
    let p = times_left b.lo a.lo x a.hi w.low w.high in
    let q = times_left b.hi a.lo x a.hi w.low w.high in
    let r = times_right x b.lo y b.hi u.low u.high in
    record { low = four_low _ _ _ _ _ _ _ p q r; high = four_high _ _ _ _ _ _ _ p q r }

sized-within : (a : Interval) (x z : ℤ) → Within a x → unsigned_abs z ≤ unsigned_abs x → Within (record { lo = neg_ℤ (pos (ends_size a)); hi = pos (ends_size a) }) z
sized-within a x z w small =
    let most = size_in a.lo x a.hi w.low w.high in
    record { low = size_low z (ends_size a) (omega arith); high = size_high z (ends_size a) (omega arith) }

quotient-size : (x y : ℤ) → unsigned_abs (operation_value Div x y) ≤ unsigned_abs x
quotient-size x y = holds_cond (λ z. unsigned_abs z ≤ unsigned_abs x) (int_eq y (pos 0)) (pos 0) (int_div x y) (λ e. omega arith) (λ e. quot_size x y)

not_inside : (b : Interval) → within b.lo b.hi (pos 0) ≡ false → b.lo ≤ℤ pos 0 → pos 0 ≤ℤ b.hi → ⊥
not_inside b e p q = let low = int_le-true b.lo (pos 0) p in let high = int_le-true (pos 0) b.hi q in cc

quotient-within : (a b : Interval) (x y : ℤ) → Within a x → Within b y → Within (operation_ends Div a b) (operation_value Div x y)
quotient-within a b x y w u =
    holds_cond (λ e. Within e (operation_value Div x y)) (within b.lo b.hi (pos 0)) _ _
    (λ e. sized-within a x (operation_value Div x y) w (quotient-size x y))
    (λ e. holds_cond (λ z. Within (ends_of_four int_div a b) z) (int_eq y (pos 0)) (pos 0) (int_div x y)
    (λ t. let same = true-int_eq y (pos 0) t in absurd (not_inside b e (omega (arith, ints, u.low)) (omega (arith, ints, u.high))))
    (λ t.
    let p = quot_left b.lo a.lo x a.hi w.low w.high in
    let q = quot_left b.hi a.lo x a.hi w.low w.high in
    let r = quot_right x b.lo y b.hi u.low u.high (not_inside b e) in
    record { low = four_low _ _ _ _ _ _ _ p q r; high = four_high _ _ _ _ _ _ _ p q r }))

-- 0 lies between the ends of any rest
zero-rest : (a b : Interval) → Within (operation_ends Rem a b) (pos 0)
zero-rest a b = record {
  low = holds_cond (λ z. z ≤ℤ pos 0) (int_le (pos 0) a.lo) (pos 0) (int_max a.lo (neg_ℤ (greatest_rest_by b))) (λ t. omega (arith, ints)) (λ t. let low = of_not_le (pos 0) a.lo t in omega (arith, ints, clamps));
  high = holds_cond (λ z. pos 0 ≤ℤ z) (int_le a.hi (pos 0)) (pos 0) (int_min a.hi (greatest_rest_by b)) (λ t. omega (arith, ints)) (λ t. let high = of_not_le a.hi (pos 0) t in omega (arith, ints, clamps));
}

rest-within : (a b : Interval) (x y : ℤ) → Within a x → Within b y → Within (operation_ends Rem a b) (operation_value Rem x y)
rest-within a b x y w u =
    holds_cond (λ z. Within (operation_ends Rem a b) z) (int_eq y (pos 0)) (pos 0) (int_rem x y)
    (λ t. zero-rest a b)
    (λ t.
    let small = rem_below_all x b.lo y b.hi (ends_size b) refl (not_zero y t) u.low u.high in
    record { low = rem_low x y a.lo _ w.low small; high = rem_high x y a.hi _ w.high small })

pub operation_ends-within : (op : Operation) (a b : Interval) (x y : ℤ) → Within a x → Within b y → Within (operation_ends op a b) (operation_value op x y)
operation_ends-within Mul a b x y w u = product-within a b x y w u
operation_ends-within Div a b x y w u = quotient-within a b x y w u
operation_ends-within Rem a b x y w u = rest-within a b x y w u
