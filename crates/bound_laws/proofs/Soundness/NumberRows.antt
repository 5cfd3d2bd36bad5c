-- The rows that give numbers are sound, and so are those that compare numbers.
use Rattle.std.proofs.Common.{◌≡◌, ◌-◌, ◌≤◌, ◌<◌, zero, suc, max, ℤ, pos, negsuc, ◌+ℤ◌, ◌-ℤ◌, ◌*ℤ◌, neg_ℤ, ◌≤ℤ◌, int_div, int_rem, unsigned_abs, Bool, true, false, not, cond, ◌&&◌, int_le, int_lt, Ok, Err, refl, subst, arith}
use Rattle.std.specs.Int.{int_min, int_max}
use Rattle.std.specs.Ordering.{int_eq}
use Rattle.std.proofs.lemmas.Int.{ints, clamps}
use Rattle.std.proofs.lemmas.Bool.Decides.{nat_tests}
use Rattle.std.proofs.lemmas.Bool.{and_parts}
use Rattle.sig_base.specs.declared.fault.FaultKind.TheVariants as faults
use Rattle.sig_base.proofs.Tests.{int_le-true, true-int_le}
use Rattle.model_core.specs.declared.model.Kind.{Kind}
use Rattle.model_core.specs.declared.model.Kind.TheVariants as kinds
use Rattle.model_core.specs.Run.State.{within}
use Rattle.model_core.specs.Run.Value.{OrFault, ◌>>=◌, exact, number_of, unless_zero}
use Rattle.model_core.specs.declared.bounds.Bounds.{Bounds}
use Rattle.model_core.specs.Rules.BoundsTable.{number_bounds, truth_bounds, lowest, highest, fits, exact_bounds, bounds_of_ends, least_of, greatest_of, negative_bounds, has_zero, quotient_bounds, remainder_bounds, magnitude, below_bounds, at_most_bounds}
use Rattle.model_core.specs.Rules.BoundsHold.{NumberIn, TruthIn, IsIn}
use Rattle.bound_laws.proofs.Soundness.Promise.{HasShape, NumberShape, TruthShape, BoundsHold}
use Rattle.model_core.proofs.BothTrue.{and_first, and_second}
use Rattle.bound_laws.proofs.Soundness.Ends.{lt_of, of_lt, of_not_lt, of_not_le, nearest_low, nearest_high, Between, four_low, four_high, times_left, times_right, quot_left, quot_right, quot_size, size_low, size_high, size_in, rem_low, rem_high, rem_below_all}

exact-cases : (b : Bool) (x z : ℤ) → within lowest highest x ≡ b → (let r : OrFault ℤ = cond b (Ok x) (Err faults.Overflow) in r ≡ Ok z) → (x ≡ z) × (lowest ≤ℤ z) × (z ≤ℤ highest)
exact-cases true x z e done =
    let same : x ≡ z = cc in
    (same, subst (λ y. lowest ≤ℤ y) same (true-int_le lowest x (and_first _ _ e)), subst (λ y. y ≤ℤ highest) same (true-int_le x highest (and_second (int_le lowest x) _ e)))
exact-cases false x z e done = cc

pub exact_ok : (x z : ℤ) → exact x ≡ Ok z → (x ≡ z) × (lowest ≤ℤ z) × (z ≤ℤ highest)
exact_ok x z e = exact-cases (within lowest highest x) x z refl e

exact_within : (x : ℤ) → lowest ≤ℤ x → x ≤ℤ highest → exact x ≡ Ok x
exact_within x p q = rw (int_le-true lowest x p, int_le-true x highest q) refl

-- an exact result between two ends lies between the nearest ones
exact_bounds-in : (l h x z : ℤ) (q : Bool) → l ≤ℤ x → x ≤ℤ h → exact x ≡ Ok z → NumberIn (exact_bounds l h q) z
unfolding exact_bounds
exact_bounds-in l h x z q low high e =
    let (same, from, to) = exact_ok x z e in
    record { low = nearest_low l z from (subst (λ y. l ≤ℤ y) same low); high = nearest_high h z to (subst (λ y. y ≤ℤ h) same high) }

exact_bounds-quiet : (l h : ℤ) (q : Bool) → (exact_bounds l h q).quiet ≡ true → q ≡ true
unfolding exact_bounds
exact_bounds-quiet l h q e = and_first q _ e

exact_bounds-safe : (l h x : ℤ) (q : Bool) → (exact_bounds l h q).quiet ≡ true → l ≤ℤ x → x ≤ℤ h → (z : ℤ) × (exact x ≡ Ok z)
unfolding exact_bounds
exact_bounds-safe l h x q e low high =
    let both = and_second q (fits l && fits h) e in
    let from = true-int_le lowest l (and_first (int_le lowest l) (int_le l highest) (and_first (fits l) (fits h) both)) in
    let to = true-int_le h highest (and_second (int_le lowest h) (int_le h highest) (and_second (fits l) (fits h) both)) in
    (x, exact_within x (omega (arith, ints)) (omega (arith, ints)))

pub number_shape : {lo hi : ℤ} {q : Bool} → NumberShape (number_bounds lo hi q)
number_shape = record { not_false = refl; not_true = refl }

pub exact_bounds-shape : (lo hi : ℤ) (q : Bool) → NumberShape (exact_bounds lo hi q)
unfolding exact_bounds
exact_bounds-shape lo hi q = record { not_false = refl; not_true = refl }

pub truth_shape : {f t q : Bool} → TruthShape (truth_bounds f t q)
truth_shape = record { low = refl; high = refl }

-- two operands, from left to right
pub two : (k l m : Kind) (a b c : Bounds) (f : ℤ → ℤ → OrFault ℤ) → HasShape m c → ((x y z : ℤ) → IsIn k a x → IsIn l b y → f x y ≡ Ok z → IsIn m c z) → (c.quiet ≡ true → (a.quiet ≡ true) × (b.quiet ≡ true)) → (c.quiet ≡ true → (x y : ℤ) → IsIn k a x → IsIn l b y → (z : ℤ) × (f x y ≡ Ok z)) → (r s : OrFault ℤ) → BoundsHold k a r → BoundsHold l b s → BoundsHold m c (r >>= λ x. s >>= f x)
two k l m a b c f shape inside quiet safe (Ok x) (Ok y) p q = record { shape = shape; inside = λ z e. inside x y z (p.inside x refl) (q.inside y refl) e; safe = λ e. safe e x y (p.inside x refl) (q.inside y refl) }
two k l m a b c f shape inside quiet safe (Ok x) (Err e) p q = record { shape = shape; inside = λ z e. cc; safe = λ e. let (y, never) = q.safe (quiet e).1 in cc }
two k l m a b c f shape inside quiet safe (Err e) s p q = record { shape = shape; inside = λ z e. cc; safe = λ e. let (y, never) = p.safe (quiet e).0 in cc }

-- the rows of numbers

pub add_sound : (a b : Bounds) (r s : OrFault ℤ) → BoundsHold kinds.Range a r → BoundsHold kinds.Range b s → BoundsHold kinds.Range (exact_bounds (a.lo +ℤ b.lo) (a.hi +ℤ b.hi) (a.quiet && b.quiet)) (r >>= λ x. s >>= λ y. exact (x +ℤ y))
add_sound a b r s p q =
    two kinds.Range kinds.Range kinds.Range a b _ (λ x y. exact (x +ℤ y)) (exact_bounds-shape _ _ _)
    (λ x y z i j e. exact_bounds-in (a.lo +ℤ b.lo) (a.hi +ℤ b.hi) (x +ℤ y) z _ (omega (arith, ints)) (omega (arith, ints)) e)
    (λ e. and_parts _ _ (exact_bounds-quiet (a.lo +ℤ b.lo) (a.hi +ℤ b.hi) _ e))
    (λ e x y i j. exact_bounds-safe (a.lo +ℤ b.lo) (a.hi +ℤ b.hi) (x +ℤ y) _ e (omega (arith, ints)) (omega (arith, ints)))
    r s p q

pub subtract_sound : (a b : Bounds) (r s : OrFault ℤ) → BoundsHold kinds.Range a r → BoundsHold kinds.Range b s → BoundsHold kinds.Range (exact_bounds (a.lo -ℤ b.hi) (a.hi -ℤ b.lo) (a.quiet && b.quiet)) (r >>= λ x. s >>= λ y. exact (x -ℤ y))
subtract_sound a b r s p q =
    two kinds.Range kinds.Range kinds.Range a b _ (λ x y. exact (x -ℤ y)) (exact_bounds-shape _ _ _)
    (λ x y z i j e. exact_bounds-in (a.lo -ℤ b.hi) (a.hi -ℤ b.lo) (x -ℤ y) z _ (omega (arith, ints)) (omega (arith, ints)) e)
    (λ e. and_parts _ _ (exact_bounds-quiet (a.lo -ℤ b.hi) (a.hi -ℤ b.lo) _ e))
    (λ e x y i j. exact_bounds-safe (a.lo -ℤ b.hi) (a.hi -ℤ b.lo) (x -ℤ y) _ e (omega (arith, ints)) (omega (arith, ints)))
    r s p q

-- from the four results of ends
ends_low : (f : ℤ → ℤ → ℤ) (a b : Bounds) (x y : ℤ) → Between (f a.lo b.lo) (f x b.lo) (f a.hi b.lo) × Between (f a.lo b.hi) (f x b.hi) (f a.hi b.hi) × Between (f x b.lo) (f x y) (f x b.hi) → least_of (f a.lo b.lo) (f a.lo b.hi) (f a.hi b.lo) (f a.hi b.hi) ≤ℤ f x y
ends_low f a b x y (p, q, r) = four_low (f a.lo b.lo) (f a.lo b.hi) (f a.hi b.lo) (f a.hi b.hi) (f x b.lo) (f x b.hi) (f x y) p q r

ends_high : (f : ℤ → ℤ → ℤ) (a b : Bounds) (x y : ℤ) → Between (f a.lo b.lo) (f x b.lo) (f a.hi b.lo) × Between (f a.lo b.hi) (f x b.hi) (f a.hi b.hi) × Between (f x b.lo) (f x y) (f x b.hi) → f x y ≤ℤ greatest_of (f a.lo b.lo) (f a.lo b.hi) (f a.hi b.lo) (f a.hi b.hi)
ends_high f a b x y (p, q, r) = four_high (f a.lo b.lo) (f a.lo b.hi) (f a.hi b.lo) (f a.hi b.hi) (f x b.lo) (f x b.hi) (f x y) p q r

times_turns : (a b : Bounds) (x y : ℤ) → NumberIn a x → NumberIn b y → Between (a.lo *ℤ b.lo) (x *ℤ b.lo) (a.hi *ℤ b.lo) × Between (a.lo *ℤ b.hi) (x *ℤ b.hi) (a.hi *ℤ b.hi) × Between (x *ℤ b.lo) (x *ℤ y) (x *ℤ b.hi)
times_turns a b x y i j = (times_left b.lo a.lo x a.hi i.low i.high, times_left b.hi a.lo x a.hi i.low i.high, times_right x b.lo y b.hi j.low j.high)

pub multiply_sound : (a b : Bounds) (r s : OrFault ℤ) → BoundsHold kinds.Range a r → BoundsHold kinds.Range b s → BoundsHold kinds.Range (bounds_of_ends (λ x y. x *ℤ y) a b (a.quiet && b.quiet)) (r >>= λ x. s >>= λ y. exact (x *ℤ y))
multiply_sound a b r s p q =
    two kinds.Range kinds.Range kinds.Range a b _ (λ x y. exact (x *ℤ y)) (exact_bounds-shape _ _ _)
    (λ x y z i j e. exact_bounds-in (least_of (a.lo *ℤ b.lo) (a.lo *ℤ b.hi) (a.hi *ℤ b.lo) (a.hi *ℤ b.hi)) (greatest_of (a.lo *ℤ b.lo) (a.lo *ℤ b.hi) (a.hi *ℤ b.lo) (a.hi *ℤ b.hi)) (x *ℤ y) z _ (ends_low (λ x y. x *ℤ y) a b x y (times_turns a b x y i j)) (ends_high (λ x y. x *ℤ y) a b x y (times_turns a b x y i j)) e)
    (λ e. and_parts _ _ (exact_bounds-quiet (least_of (a.lo *ℤ b.lo) (a.lo *ℤ b.hi) (a.hi *ℤ b.lo) (a.hi *ℤ b.hi)) (greatest_of (a.lo *ℤ b.lo) (a.lo *ℤ b.hi) (a.hi *ℤ b.lo) (a.hi *ℤ b.hi)) _ e))
    (λ e x y i j. exact_bounds-safe (least_of (a.lo *ℤ b.lo) (a.lo *ℤ b.hi) (a.hi *ℤ b.lo) (a.hi *ℤ b.hi)) (greatest_of (a.lo *ℤ b.lo) (a.lo *ℤ b.hi) (a.hi *ℤ b.lo) (a.hi *ℤ b.hi)) (x *ℤ y) _ e (ends_low (λ x y. x *ℤ y) a b x y (times_turns a b x y i j)) (ends_high (λ x y. x *ℤ y) a b x y (times_turns a b x y i j)))
    r s p q

pub negate_sound : (a : Bounds) (r : OrFault ℤ) → BoundsHold kinds.Range a r → BoundsHold kinds.Range (negative_bounds a) (r >>= λ x. exact (neg_ℤ x))
negate_sound a (Ok x) p =
    let i : NumberIn a x = p.inside x refl in
    record { shape = exact_bounds-shape _ _ _; inside = λ z e. exact_bounds-in (neg_ℤ a.hi) (neg_ℤ a.lo) (neg_ℤ x) z _ (omega (arith, ints)) (omega (arith, ints)) e; safe = λ e. exact_bounds-safe (neg_ℤ a.hi) (neg_ℤ a.lo) (neg_ℤ x) _ e (omega (arith, ints)) (omega (arith, ints)) }
negate_sound a (Err f) p = record { shape = exact_bounds-shape _ _ _; inside = λ z e. cc; safe = λ e. let (y, never) = p.safe (exact_bounds-quiet (neg_ℤ a.hi) (neg_ℤ a.lo) _ e) in cc }

-- quotients

nonzero-cases : (b : Bool) (y z : ℤ) (r : OrFault ℤ) → int_eq y (pos 0) ≡ b → (let s : OrFault ℤ = cond b (Err faults.DivisionByZero) r in s ≡ Ok z) → (int_eq y (pos 0) ≡ false) × (r ≡ Ok z)
nonzero-cases true y z r e done = cc
nonzero-cases false y z r e done = (e, done)

unless_zero_ok : (y z : ℤ) (r : OrFault ℤ) → unless_zero y r ≡ Ok z → (int_eq y (pos 0) ≡ false) × (r ≡ Ok z)
unless_zero_ok y z r e = nonzero-cases (int_eq y (pos 0)) y z r refl e

eq_zero : (b : Bool) (y : ℤ) → int_eq y (pos 0) ≡ b → cond b (y ≡ pos 0) (0 < unsigned_abs y)
eq_zero true (pos zero) e = refl
eq_zero true (pos (suc n)) e = absurd (grind (arith, nat_tests))
eq_zero true (negsuc n) e = cc
eq_zero false (pos zero) e = cc
eq_zero false (pos (suc n)) e = omega arith
eq_zero false (negsuc n) e = omega arith

not_zero : (y : ℤ) → (y ≡ pos 0 → ⊥) → int_eq y (pos 0) ≡ false
not_zero (pos zero) h = absurd (h refl)
not_zero (pos (suc n)) h = grind (arith, nat_tests)
not_zero (negsuc n) h = refl

outside : (b : Bounds) → has_zero b ≡ false → b.lo ≤ℤ pos 0 → pos 0 ≤ℤ b.hi → ⊥
outside b e p q =
    let gone : int_le (pos 0) b.hi ≡ false = subst (λ t. (t && int_le (pos 0) b.hi) ≡ false) (int_le-true b.lo (pos 0) p) e in
    let there = int_le-true (pos 0) b.hi q in cc

quot_turns : (a b : Bounds) → has_zero b ≡ false → (x y : ℤ) → NumberIn a x → NumberIn b y → Between (int_div a.lo b.lo) (int_div x b.lo) (int_div a.hi b.lo) × Between (int_div a.lo b.hi) (int_div x b.hi) (int_div a.hi b.hi) × Between (int_div x b.lo) (int_div x y) (int_div x b.hi)
quot_turns a b e x y i j = (quot_left b.lo a.lo x a.hi i.low i.high, quot_left b.hi a.lo x a.hi i.low i.high, quot_right x b.lo y b.hi j.low j.high (outside b e))

divide-cases : (t : Bool) (a b : Bounds) → has_zero b ≡ t → (r s : OrFault ℤ) → BoundsHold kinds.Range a r → BoundsHold kinds.Range b s → BoundsHold kinds.Range (cond t (exact_bounds (neg_ℤ (pos (magnitude a))) (pos (magnitude a)) false) (bounds_of_ends int_div a b (a.quiet && b.quiet))) (r >>= λ x. s >>= λ y. unless_zero y (exact (int_div x y)))
divide-cases true a b at_zero r s p q =
    two kinds.Range kinds.Range kinds.Range a b _ (λ x y. unless_zero y (exact (int_div x y))) (exact_bounds-shape _ _ _)
    (λ x y z i j e.
    let small : unsigned_abs (int_div x y) ≤ magnitude a = omega (arith, quot_size x y, size_in a.lo x a.hi i.low i.high) in
    exact_bounds-in (neg_ℤ (pos (magnitude a))) (pos (magnitude a)) (int_div x y) z false (size_low (int_div x y) (magnitude a) small) (size_high (int_div x y) (magnitude a) small) (unless_zero_ok y z _ e).1)
    (λ e. let never : false ≡ true = exact_bounds-quiet (neg_ℤ (pos (magnitude a))) (pos (magnitude a)) false e in cc)
    (λ e. let never : false ≡ true = exact_bounds-quiet (neg_ℤ (pos (magnitude a))) (pos (magnitude a)) false e in cc)
    r s p q
divide-cases false a b at_zero r s p q =
    two kinds.Range kinds.Range kinds.Range a b _ (λ x y. unless_zero y (exact (int_div x y))) (exact_bounds-shape _ _ _)
    (λ x y z i j e. exact_bounds-in (least_of (int_div a.lo b.lo) (int_div a.lo b.hi) (int_div a.hi b.lo) (int_div a.hi b.hi)) (greatest_of (int_div a.lo b.lo) (int_div a.lo b.hi) (int_div a.hi b.lo) (int_div a.hi b.hi)) (int_div x y) z _ (ends_low int_div a b x y (quot_turns a b at_zero x y i j)) (ends_high int_div a b x y (quot_turns a b at_zero x y i j)) (unless_zero_ok y z _ e).1)
    (λ e. and_parts _ _ (exact_bounds-quiet (least_of (int_div a.lo b.lo) (int_div a.lo b.hi) (int_div a.hi b.lo) (int_div a.hi b.hi)) (greatest_of (int_div a.lo b.lo) (int_div a.lo b.hi) (int_div a.hi b.lo) (int_div a.hi b.hi)) _ e))
    (λ e x y i j.
    let nonzero : int_eq y (pos 0) ≡ false = not_zero y (λ is. outside b at_zero (subst (λ w. b.lo ≤ℤ w) is j.low) (subst (λ w. w ≤ℤ b.hi) is j.high)) in
    let (z, done) = exact_bounds-safe (least_of (int_div a.lo b.lo) (int_div a.lo b.hi) (int_div a.hi b.lo) (int_div a.hi b.hi)) (greatest_of (int_div a.lo b.lo) (int_div a.lo b.hi) (int_div a.hi b.lo) (int_div a.hi b.hi)) (int_div x y) _ e (ends_low int_div a b x y (quot_turns a b at_zero x y i j)) (ends_high int_div a b x y (quot_turns a b at_zero x y i j)) in
    (z, rw nonzero done))
    r s p q

pub divide_sound : (a b : Bounds) (r s : OrFault ℤ) → BoundsHold kinds.Range a r → BoundsHold kinds.Range b s → BoundsHold kinds.Range (quotient_bounds a b) (r >>= λ x. s >>= λ y. unless_zero y (exact (int_div x y)))
divide_sound a b r s p q = divide-cases (has_zero b) a b refl r s p q

pub not_true : (b : Bool) → not b ≡ true → b ≡ false
not_true true e = cc
not_true false e = refl

pub remainder_sound : (a b : Bounds) (r s : OrFault ℤ) → BoundsHold kinds.Range a r → BoundsHold kinds.Range b s → BoundsHold kinds.Range (remainder_bounds a b) (r >>= λ x. s >>= λ y. unless_zero y (Ok (int_rem x y)))
remainder_sound a b r s p q =
    two kinds.Range kinds.Range kinds.Range a b _ (λ x y. unless_zero y (Ok (int_rem x y))) number_shape
    (λ x y z i j e.
    let (no_zero, done) = unless_zero_ok y z _ e in
    let same : int_rem x y ≡ z = cc in
    let small : unsigned_abs (int_rem x y) ≤ max (magnitude b) 1 - 1 = rem_below_all x b.lo y b.hi (magnitude b) refl (eq_zero false y no_zero) j.low j.high in
    let inside : NumberIn (remainder_bounds a b) (int_rem x y) = record { low = rem_low x y a.lo _ i.low small; high = rem_high x y a.hi _ i.high small } in
    subst (λ w. NumberIn (remainder_bounds a b) w) same inside)
    (λ e. and_parts _ _ (and_first (a.quiet && b.quiet) _ e))
    (λ e x y i j.
    let gap : has_zero b ≡ false = not_true _ (and_second (a.quiet && b.quiet) _ e) in
    let nonzero : int_eq y (pos 0) ≡ false = not_zero y (λ is. outside b gap (subst (λ w. b.lo ≤ℤ w) is j.low) (subst (λ w. w ≤ℤ b.hi) is j.high)) in
    (int_rem x y, rw nonzero refl))
    r s p q

-- least and greatest

least-cases : (t : Bool) (a b : Bounds) (x y : ℤ) → int_le x y ≡ t → NumberIn a x → NumberIn b y → NumberIn (number_bounds (int_min a.lo b.lo) (int_min a.hi b.hi) (a.quiet && b.quiet)) (cond t x y)
least-cases true a b x y e i j = record { low = omega (arith, ints, clamps); high = omega (arith, ints, clamps, true-int_le x y e) }
least-cases false a b x y e i j = record { low = omega (arith, ints, clamps); high = omega (arith, ints, clamps, of_not_le x y e) }

greatest-cases : (t : Bool) (a b : Bounds) (x y : ℤ) → int_le x y ≡ t → NumberIn a x → NumberIn b y → NumberIn (number_bounds (int_max a.lo b.lo) (int_max a.hi b.hi) (a.quiet && b.quiet)) (cond t y x)
greatest-cases true a b x y e i j = record { low = omega (arith, ints, clamps, true-int_le x y e); high = omega (arith, ints, clamps) }
greatest-cases false a b x y e i j = record { low = omega (arith, ints, clamps, of_not_le x y e); high = omega (arith, ints, clamps) }

pub greatest_sound : (a b : Bounds) (r s : OrFault ℤ) → BoundsHold kinds.Range a r → BoundsHold kinds.Range b s → BoundsHold kinds.Range (number_bounds (int_max a.lo b.lo) (int_max a.hi b.hi) (a.quiet && b.quiet)) (r >>= λ x. s >>= λ y. Ok (cond (int_le x y) y x))
greatest_sound a b r s p q =
    two kinds.Range kinds.Range kinds.Range a b _ (λ x y. Ok (cond (int_le x y) y x)) number_shape
    (λ x y z i j e.
    let same : cond (int_le x y) y x ≡ z = cc in
    subst (λ w. NumberIn (number_bounds (int_max a.lo b.lo) (int_max a.hi b.hi) (a.quiet && b.quiet)) w) same (greatest-cases (int_le x y) a b x y refl i j))
    (λ e. and_parts _ _ e)
    (λ e x y i j. (_, refl))
    r s p q

pub least_sound : (a b : Bounds) (r s : OrFault ℤ) → BoundsHold kinds.Range a r → BoundsHold kinds.Range b s → BoundsHold kinds.Range (number_bounds (int_min a.lo b.lo) (int_min a.hi b.hi) (a.quiet && b.quiet)) (r >>= λ x. s >>= λ y. Ok (cond (int_le x y) x y))
least_sound a b r s p q =
    two kinds.Range kinds.Range kinds.Range a b _ (λ x y. Ok (cond (int_le x y) x y)) number_shape
    (λ x y z i j e.
    let same : cond (int_le x y) x y ≡ z = cc in
    subst (λ w. NumberIn (number_bounds (int_min a.lo b.lo) (int_min a.hi b.hi) (a.quiet && b.quiet)) w) same (least-cases (int_le x y) a b x y refl i j))
    (λ e. and_parts _ _ e)
    (λ e x y i j. (_, refl))
    r s p q

-- comparisons

-- the truth value t is what can be
pub answers : (f t quiet b : Bool) → (b ≡ true → t ≡ true) → (b ≡ false → f ≡ true) → TruthIn (truth_bounds f t quiet) (number_of b)
answers f t quiet true holds fails = record { truth = true; value = refl; can = holds refl }
answers f t quiet false holds fails = record { truth = false; value = refl; can = fails refl }

pub below_sound : (a b : Bounds) (r s : OrFault ℤ) → BoundsHold kinds.Range a r → BoundsHold kinds.Range b s → BoundsHold kinds.Truth (below_bounds a b) (r >>= λ x. s >>= λ y. Ok (number_of (int_lt x y)))
below_sound a b r s p q =
    two kinds.Range kinds.Range kinds.Truth a b _ (λ x y. Ok (number_of (int_lt x y))) truth_shape
    (λ x y z i j e.
    let same : number_of (int_lt x y) ≡ z = cc in
    subst (λ w. TruthIn (below_bounds a b) w) same (answers _ _ _ (int_lt x y) (λ e. of_lt a.lo b.hi (omega (arith, ints, lt_of x y e))) (λ e. int_le-true b.lo a.hi (omega (arith, ints, of_not_lt x y e)))))
    (λ e. and_parts _ _ e)
    (λ e x y i j. (_, refl))
    r s p q

-- a comparison with the right operand first, as `a > b` is `b < a`
pub above_sound : (a b : Bounds) (r s : OrFault ℤ) → BoundsHold kinds.Range a r → BoundsHold kinds.Range b s → BoundsHold kinds.Truth (below_bounds b a) (r >>= λ x. s >>= λ y. Ok (number_of (int_lt y x)))
above_sound a b r s p q =
    two kinds.Range kinds.Range kinds.Truth a b _ (λ x y. Ok (number_of (int_lt y x))) truth_shape
    (λ x y z i j e.
    let same : number_of (int_lt y x) ≡ z = cc in
    subst (λ w. TruthIn (below_bounds b a) w) same (answers _ _ _ (int_lt y x) (λ e. of_lt b.lo a.hi (omega (arith, ints, lt_of y x e))) (λ e. int_le-true a.lo b.hi (omega (arith, ints, of_not_lt y x e)))))
    (λ e. let (u, v) = and_parts b.quiet a.quiet e in (v, u))
    (λ e x y i j. (_, refl))
    r s p q

pub at_most_sound : (a b : Bounds) (r s : OrFault ℤ) → BoundsHold kinds.Range a r → BoundsHold kinds.Range b s → BoundsHold kinds.Truth (at_most_bounds a b) (r >>= λ x. s >>= λ y. Ok (number_of (int_le x y)))
at_most_sound a b r s p q =
    two kinds.Range kinds.Range kinds.Truth a b _ (λ x y. Ok (number_of (int_le x y))) truth_shape
    (λ x y z i j e.
    let same : number_of (int_le x y) ≡ z = cc in
    subst (λ w. TruthIn (at_most_bounds a b) w) same (answers _ _ _ (int_le x y) (λ e. int_le-true a.lo b.hi (omega (arith, ints, true-int_le x y e))) (λ e. of_lt b.lo a.hi (omega (arith, ints, of_not_le x y e)))))
    (λ e. and_parts _ _ e)
    (λ e x y i j. (_, refl))
    r s p q

pub at_least_sound : (a b : Bounds) (r s : OrFault ℤ) → BoundsHold kinds.Range a r → BoundsHold kinds.Range b s → BoundsHold kinds.Truth (at_most_bounds b a) (r >>= λ x. s >>= λ y. Ok (number_of (int_le y x)))
at_least_sound a b r s p q =
    two kinds.Range kinds.Range kinds.Truth a b _ (λ x y. Ok (number_of (int_le y x))) truth_shape
    (λ x y z i j e.
    let same : number_of (int_le y x) ≡ z = cc in
    subst (λ w. TruthIn (at_most_bounds b a) w) same (answers _ _ _ (int_le y x) (λ e. int_le-true b.lo a.hi (omega (arith, ints, true-int_le y x e))) (λ e. of_lt a.lo b.hi (omega (arith, ints, of_not_le y x e)))))
    (λ e. let (u, v) = and_parts b.quiet a.quiet e in (v, u))
    (λ e x y i j. (_, refl))
    r s p q
