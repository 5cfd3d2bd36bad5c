-- The rows that give truth values are sound, and so are those of equality and of `if`.
use Rattle.std.proofs.Common.{◌≡◌, ℤ, pos, ◌-ℤ◌, Bool, true, false, not, cond, ◌&&◌, ◌||◌, Ok, Err, refl, sym, ap, ◌∙◌, subst, arith}
use Rattle.std.specs.Int.{int_min, int_max}
use Rattle.std.specs.Ordering.{int_eq}
use Rattle.std.proofs.lemmas.Int.{ints, clamps}
use Rattle.std.proofs.lemmas.Bool.{or_left, or_right, and_from, and_parts}
use Rattle.sig_base.proofs.Tests.{int_le-true, int_eq-true}
use Rattle.model_core.specs.declared.model.Kind.{Kind}
use Rattle.model_core.specs.declared.model.Kind.TheVariants as kinds
use Rattle.model_core.specs.Run.Value.{OrFault, ◌>>=◌, number_of, is_one}
use Rattle.model_core.specs.EventGraph.{And, Or}
use Rattle.model_core.specs.declared.bounds.Bounds.{Bounds}
use Rattle.model_core.specs.Rules.BoundsTable.{truth_bounds, opposite, equal_bounds, of_truth_value, operator_bounds, chosen_bounds, either_bounds}
use Rattle.model_core.specs.Rules.BoundsHold.{NumberIn, TruthIn, IsIn}
use Rattle.bound_laws.proofs.Soundness.Promise.{HasShape, NumberShape, TruthShape, BoundsHold}
use Rattle.model_core.proofs.BothTrue.{and_first, and_second}
use Rattle.model_core.proofs.SameExpressions.{true-int_eq}
use Rattle.bound_laws.proofs.Soundness.NumberRows.{two, truth_shape, answers}

or_gap : (a b : Bool) → (a || not b) ≡ true → b ≡ true → a ≡ true
or_gap true b e h = refl
or_gap false true e h = cc
or_gap false false e h = cc

opposite-cases : (t : Bool) (a : Bounds) (x : ℤ) → x ≡ number_of t → cond t a.can_true a.can_false ≡ true → TruthIn (opposite a) (pos 1 -ℤ x)
opposite-cases true a x is can = record { truth = false; value = ap (λ w. pos 1 -ℤ w) is; can = can }
opposite-cases false a x is can = record { truth = true; value = ap (λ w. pos 1 -ℤ w) is; can = can }

opposite_in : (a : Bounds) (x : ℤ) → TruthIn a x → TruthIn (opposite a) (pos 1 -ℤ x)
opposite_in a x i = opposite-cases i.truth a x i.value i.can

pub not_sound : (a : Bounds) (r : OrFault ℤ) → BoundsHold kinds.Truth a r → BoundsHold kinds.Truth (opposite a) (r >>= λ x. Ok (pos 1 -ℤ x))
not_sound a (Ok x) p = record {
  shape = truth_shape;
  inside = λ z e. let same : pos 1 -ℤ x ≡ z = cc in subst (λ w. TruthIn (opposite a) w) same (opposite_in a x (p.inside x refl));
  safe = λ e. (_, refl);
}
not_sound a (Err f) p = record { shape = truth_shape; inside = λ z e. cc; safe = λ e. let (y, never) = p.safe e in cc }

-- `and` at 1 and a right value
and-value-cases : (t : Bool) (a b : Bounds) (y : ℤ) → a.can_true ≡ true → y ≡ number_of t → cond t b.can_true b.can_false ≡ true → TruthIn (operator_bounds And a b) y
and-value-cases true a b y can is e = record { truth = true; value = is; can = and_from a.can_true b.can_true can e }
and-value-cases false a b y can is e = record { truth = false; value = is; can = or_right a.can_false _ (and_from a.can_true b.can_false can e) }

and-value : (a b : Bounds) (y : ℤ) → a.can_true ≡ true → TruthIn b y → TruthIn (operator_bounds And a b) y
and-value a b y can i = and-value-cases i.truth a b y can i.value i.can

-- `and` at a left value of 1
and-one : (a b : Bounds) (s : OrFault ℤ) → a.can_true ≡ true → BoundsHold kinds.Truth b s → BoundsHold kinds.Truth (operator_bounds And a b) (s >>= λ y. Ok y)
and-one a b (Ok y) can q = record {
  shape = truth_shape;
  inside = λ z e. let same : y ≡ z = cc in subst (λ w. TruthIn (operator_bounds And a b) w) same (and-value a b y can (q.inside y refl));
  safe = λ e. (_, refl);
}
and-one a b (Err f) can q = record { shape = truth_shape; inside = λ z e. cc; safe = λ e. let (y, never) = q.safe (or_gap b.quiet a.can_true (and_second a.quiet _ e) can) in cc }

and-cases : (t : Bool) (a b : Bounds) (s : OrFault ℤ) → cond t a.can_true a.can_false ≡ true → (t ≡ true → BoundsHold kinds.Truth b s) → BoundsHold kinds.Truth (operator_bounds And a b) (cond (int_eq (number_of t) (pos 0)) (Ok (number_of t)) (s >>= λ y. Ok y))
and-cases true a b s can q = and-one a b s can (q refl)
and-cases false a b s can q = record {
  shape = truth_shape;
  inside = λ z e. let same : pos 0 ≡ z = cc in subst (λ w. TruthIn (operator_bounds And a b) w) same (record { truth = false; value = refl; can = or_left a.can_false _ can });
  safe = λ e. (_, refl);
}

one_value : (t : Bool) (x : ℤ) → x ≡ number_of t → t ≡ true → x ≡ pos 1
one_value true x e h = e
one_value false x e h = cc

zero_value : (t : Bool) (x : ℤ) → x ≡ number_of t → t ≡ false → x ≡ pos 0
zero_value true x e h = cc
zero_value false x e h = e

pub and_sound : (a b : Bounds) (r s : OrFault ℤ) → BoundsHold kinds.Truth a r → (r ≡ Ok (pos 1) → BoundsHold kinds.Truth b s) → BoundsHold kinds.Truth (operator_bounds And a b) (r >>= λ x. cond (int_eq x (pos 0)) (Ok x) (s >>= λ y. Ok y))
and_sound a b (Ok x) s p q =
    let i : TruthIn a x = p.inside x refl in
    subst (λ w. BoundsHold kinds.Truth (operator_bounds And a b) (cond (int_eq w (pos 0)) (Ok w) (s >>= λ y. Ok y))) (sym i.value) (and-cases i.truth a b s i.can (λ e. q (let is : x ≡ pos 1 = one_value i.truth x i.value e in cc)))
and_sound a b (Err f) s p q = record { shape = truth_shape; inside = λ z e. cc; safe = λ e. let (y, never) = p.safe (and_first a.quiet _ e) in cc }

-- `or` at 0 and a right value
or-value-cases : (t : Bool) (a b : Bounds) (y : ℤ) → a.can_false ≡ true → y ≡ number_of t → cond t b.can_true b.can_false ≡ true → TruthIn (operator_bounds Or a b) y
or-value-cases true a b y can is e = record { truth = true; value = is; can = or_right a.can_true _ (and_from a.can_false b.can_true can e) }
or-value-cases false a b y can is e = record { truth = false; value = is; can = and_from a.can_false b.can_false can e }

or-value : (a b : Bounds) (y : ℤ) → a.can_false ≡ true → TruthIn b y → TruthIn (operator_bounds Or a b) y
or-value a b y can i = or-value-cases i.truth a b y can i.value i.can

or-zero : (a b : Bounds) (s : OrFault ℤ) → a.can_false ≡ true → BoundsHold kinds.Truth b s → BoundsHold kinds.Truth (operator_bounds Or a b) (s >>= λ y. Ok y)
or-zero a b (Ok y) can q = record {
  shape = truth_shape;
  inside = λ z e. let same : y ≡ z = cc in subst (λ w. TruthIn (operator_bounds Or a b) w) same (or-value a b y can (q.inside y refl));
  safe = λ e. (_, refl);
}
or-zero a b (Err f) can q = record { shape = truth_shape; inside = λ z e. cc; safe = λ e. let (y, never) = q.safe (or_gap b.quiet a.can_false (and_second a.quiet _ e) can) in cc }

or-cases : (t : Bool) (a b : Bounds) (s : OrFault ℤ) → cond t a.can_true a.can_false ≡ true → (t ≡ false → BoundsHold kinds.Truth b s) → BoundsHold kinds.Truth (operator_bounds Or a b) (cond (int_eq (number_of t) (pos 1)) (Ok (number_of t)) (s >>= λ y. Ok y))
or-cases false a b s can q = or-zero a b s can (q refl)
or-cases true a b s can q = record {
  shape = truth_shape;
  inside = λ z e. let same : pos 1 ≡ z = cc in subst (λ w. TruthIn (operator_bounds Or a b) w) same (record { truth = true; value = refl; can = or_left a.can_true _ can });
  safe = λ e. (_, refl);
}

pub or_sound : (a b : Bounds) (r s : OrFault ℤ) → BoundsHold kinds.Truth a r → (r ≡ Ok (pos 0) → BoundsHold kinds.Truth b s) → BoundsHold kinds.Truth (operator_bounds Or a b) (r >>= λ x. cond (int_eq x (pos 1)) (Ok x) (s >>= λ y. Ok y))
or_sound a b (Ok x) s p q =
    let i : TruthIn a x = p.inside x refl in
    subst (λ w. BoundsHold kinds.Truth (operator_bounds Or a b) (cond (int_eq w (pos 1)) (Ok w) (s >>= λ y. Ok y))) (sym i.value) (or-cases i.truth a b s i.can (λ e. q (let is : x ≡ pos 0 = zero_value i.truth x i.value e in cc)))
or_sound a b (Err f) s p q = record { shape = truth_shape; inside = λ z e. cc; safe = λ e. let (y, never) = p.safe (and_first a.quiet _ e) in cc }

-- equality

pub differ : (x y : ℤ) → int_eq x y ≡ false → x ≡ y → ⊥
differ x y e same = let is = int_eq-true x y same in cc

equal_numbers-false : (t : Bool) (a b : Bounds) (x y : ℤ) → (int_eq a.lo a.hi && int_eq a.hi b.lo && int_eq b.lo b.hi) ≡ t → NumberIn a x → NumberIn b y → int_eq x y ≡ false → not t ≡ true
equal_numbers-false false a b x y e i j differ = refl
equal_numbers-false true a b x y e i j differ =
    let one = true-int_eq a.lo a.hi (and_first _ _ (and_first _ _ e)) in
    let two : a.hi ≡ b.lo = true-int_eq a.hi b.lo (and_second (int_eq a.lo a.hi) _ (and_first _ _ e)) in
    let three : b.lo ≡ b.hi = true-int_eq b.lo b.hi (and_second (int_eq a.lo a.hi && int_eq a.hi b.lo) _ e) in
    let same : x ≡ y = omega (arith, ints) in
    let never = int_eq-true x y same in cc

equal_numbers : (a b : Bounds) (x y : ℤ) → NumberShape a → NumberIn a x → NumberIn b y → TruthIn (equal_bounds a b) (number_of (int_eq x y))
equal_numbers a b x y shape i j =
    rw (shape.not_false, shape.not_true)
    (answers _ _ (a.quiet && b.quiet) (int_eq x y)
    (λ e. let same : x ≡ y = true-int_eq x y e in and_from _ _ (int_le-true a.lo b.hi (omega (arith, ints))) (int_le-true b.lo a.hi (omega (arith, ints))))
    (λ e. equal_numbers-false _ a b x y refl i j e))

equal_quiet : (t q : Bool) (a b c d : Bool) → (cond t (truth_bounds a b q) (truth_bounds c d q)).quiet ≡ q
equal_quiet true q a b c d = refl
equal_quiet false q a b c d = refl

pub equal_shape : (t q : Bool) (a b c d : Bool) → TruthShape (cond t (truth_bounds a b q) (truth_bounds c d q))
equal_shape true q a b c d = truth_shape
equal_shape false q a b c d = truth_shape

pub equal_sound_numbers : (a b : Bounds) (r s : OrFault ℤ) → BoundsHold kinds.Range a r → BoundsHold kinds.Range b s → BoundsHold kinds.Truth (equal_bounds a b) (r >>= λ x. s >>= λ y. Ok (number_of (int_eq x y)))
equal_sound_numbers a b r s p q =
    two kinds.Range kinds.Range kinds.Truth a b _ (λ x y. Ok (number_of (int_eq x y))) (equal_shape (of_truth_value a) _ _ _ _ _)
    (λ x y z i j e.
    let same : number_of (int_eq x y) ≡ z = cc in
    subst (λ w. TruthIn (equal_bounds a b) w) same (equal_numbers a b x y p.shape i j))
    (λ e. and_parts _ _ (sym (equal_quiet (of_truth_value a) (a.quiet && b.quiet) _ _ _ _) ∙ e))
    (λ e x y i j. (_, refl))
    r s p q

equal_truths-cases : (t u : Bool) (af at bf bt q : Bool) → cond t at af ≡ true → cond u bt bf ≡ true → TruthIn (truth_bounds (at && bf || af && bt) (at && bt || af && bf) q) (number_of (int_eq (number_of t) (number_of u)))
equal_truths-cases true true af at bf bt q e h = record { truth = true; value = refl; can = or_left _ _ (and_from at bt e h) }
equal_truths-cases true false af at bf bt q e h = record { truth = false; value = refl; can = or_left _ _ (and_from at bf e h) }
equal_truths-cases false true af at bf bt q e h = record { truth = false; value = refl; can = or_right (at && bf) _ (and_from af bt e h) }
equal_truths-cases false false af at bf bt q e h = record { truth = true; value = refl; can = or_right (at && bt) _ (and_from af bf e h) }

is_truth-cases : (t f u : Bool) → cond t u f ≡ true → (f || u) ≡ true
is_truth-cases true f u e = or_right f u e
is_truth-cases false f u e = or_left f u e

equal_truths : (a b : Bounds) (x y : ℤ) → TruthIn a x → TruthIn b y → TruthIn (equal_bounds a b) (number_of (int_eq x y))
equal_truths a b x y i j =
    let truth : of_truth_value a ≡ true = is_truth-cases i.truth a.can_false a.can_true i.can in
    rw (truth, i.value, j.value) (equal_truths-cases i.truth j.truth a.can_false a.can_true b.can_false b.can_true (a.quiet && b.quiet) i.can j.can)

-- `if`

quiet_in : (k : Kind) (a : Bounds) (q : Bool) (x : ℤ) → IsIn k a x → IsIn k (record a { quiet = q }) x
quiet_in kinds.Range a q x i = record { low = i.low; high = i.high }
quiet_in kinds.Truth a q x i = record { truth = i.truth; value = i.value; can = i.can }

cond_or-left : (t f u g v : Bool) → cond t u f ≡ true → cond t (u || v) (f || g) ≡ true
cond_or-left true f u g v e = or_left u v e
cond_or-left false f u g v e = or_left f g e

cond_or-right : (t f u g v : Bool) → cond t v g ≡ true → cond t (u || v) (f || g) ≡ true
cond_or-right true f u g v e = or_right u v e
cond_or-right false f u g v e = or_right f g e

either_left : (k : Kind) (a b : Bounds) (x : ℤ) → IsIn k a x → IsIn k (either_bounds a b) x
either_left kinds.Range a b x i = record { low = omega (arith, ints, clamps); high = omega (arith, ints, clamps) }
either_left kinds.Truth a b x i = record { truth = i.truth; value = i.value; can = cond_or-left i.truth _ _ _ _ i.can }

either_right : (k : Kind) (a b : Bounds) (x : ℤ) → IsIn k b x → IsIn k (either_bounds a b) x
either_right kinds.Range a b x i = record { low = omega (arith, ints, clamps); high = omega (arith, ints, clamps) }
either_right kinds.Truth a b x i = record { truth = i.truth; value = i.value; can = cond_or-right i.truth _ _ _ _ i.can }

chosen_in-true : (k : Kind) (f t : Bool) (a b : Bounds) (q : Bool) (x : ℤ) → t ≡ true → IsIn k a x → IsIn k (record (cond (not f) a (cond (not t) b (either_bounds a b))) { quiet = q }) x
chosen_in-true k false t a b q x e i = quiet_in k a q x i
chosen_in-true k true true a b q x e i = quiet_in k (either_bounds a b) q x (either_left k a b x i)
chosen_in-true k true false a b q x e i = cc

chosen_in-false : (k : Kind) (f t : Bool) (a b : Bounds) (q : Bool) (x : ℤ) → f ≡ true → IsIn k b x → IsIn k (record (cond (not f) a (cond (not t) b (either_bounds a b))) { quiet = q }) x
chosen_in-false k false t a b q x e i = cc
chosen_in-false k true true a b q x e i = quiet_in k (either_bounds a b) q x (either_right k a b x i)
chosen_in-false k true false a b q x e i = quiet_in k b q x i

quiet_shape : (k : Kind) (a : Bounds) (q : Bool) → HasShape k a → HasShape k (record a { quiet = q })
quiet_shape kinds.Range a q i = record { not_false = i.not_false; not_true = i.not_true }
quiet_shape kinds.Truth a q i = record { low = i.low; high = i.high }

min_of : (f g : Bool) → int_min (number_of (not f)) (number_of (not g)) ≡ number_of (not (f || g))
min_of true true = refl
min_of true false = refl
min_of false true = refl
min_of false false = refl

max_of : (t u : Bool) → int_max (number_of t) (number_of u) ≡ number_of (t || u)
max_of true true = refl
max_of true false = refl
max_of false true = refl
max_of false false = refl

either_shape : (k : Kind) (a b : Bounds) → HasShape k a → HasShape k b → HasShape k (either_bounds a b)
either_shape kinds.Range a b i j = record { not_false = rw (i.not_false, j.not_false) refl; not_true = rw (i.not_true, j.not_true) refl }
either_shape kinds.Truth a b i j = record { low = rw (i.low, j.low) (min_of a.can_false b.can_false); high = rw (i.high, j.high) (max_of a.can_true b.can_true) }

chosen_shape-cases : (k : Kind) (f t : Bool) (a b : Bounds) (q : Bool) → HasShape k a → HasShape k b → HasShape k (record (cond f a (cond t b (either_bounds a b))) { quiet = q })
chosen_shape-cases k true t a b q i j = quiet_shape k a q i
chosen_shape-cases k false true a b q i j = quiet_shape k b q j
chosen_shape-cases k false false a b q i j = quiet_shape k (either_bounds a b) q (either_shape k a b i j)

pub chosen_shape : (k : Kind) (c a b : Bounds) → HasShape k a → HasShape k b → HasShape k (chosen_bounds c a b)
chosen_shape k c a b i j = chosen_shape-cases k (not c.can_false) (not c.can_true) a b _ i j

if-cases : (t : Bool) (k : Kind) (c a b : Bounds) (ra rb : OrFault ℤ) → cond t c.can_true c.can_false ≡ true → HasShape k a → HasShape k b → (t ≡ true → BoundsHold k a ra) → (t ≡ false → BoundsHold k b rb) → BoundsHold k (chosen_bounds c a b) (cond (is_one (number_of t)) ra rb)
if-cases true k c a b ra rb can i j p q = record {
  shape = chosen_shape k c a b i j;
  inside = λ z e. chosen_in-true k c.can_false c.can_true a b _ z can ((p refl).inside z e);
  safe = λ e. (p refl).safe (or_gap a.quiet c.can_true (and_second c.quiet _ (and_first (c.quiet && (a.quiet || not c.can_true)) _ e)) can);
}
if-cases false k c a b ra rb can i j p q = record {
  shape = chosen_shape k c a b i j;
  inside = λ z e. chosen_in-false k c.can_false c.can_true a b _ z can ((q refl).inside z e);
  safe = λ e. (q refl).safe (or_gap b.quiet c.can_false (and_second (c.quiet && (a.quiet || not c.can_true)) _ e) can);
}

pub if_sound : (k : Kind) (c a b : Bounds) (r ra rb : OrFault ℤ) → BoundsHold kinds.Truth c r → HasShape k a → HasShape k b → (r ≡ Ok (pos 1) → BoundsHold k a ra) → (r ≡ Ok (pos 0) → BoundsHold k b rb) → BoundsHold k (chosen_bounds c a b) (r >>= λ x. cond (is_one x) ra rb)
if_sound k c a b (Ok x) ra rb h i j p q =
    let v : TruthIn c x = h.inside x refl in
    subst (λ w. BoundsHold k (chosen_bounds c a b) (cond (is_one w) ra rb)) (sym v.value)
    (if-cases v.truth k c a b ra rb v.can i j (λ e. p (let is : x ≡ pos 1 = one_value v.truth x v.value e in cc)) (λ e. q (let is : x ≡ pos 0 = zero_value v.truth x v.value e in cc)))
if_sound k c a b (Err f) ra rb h i j p q = record { shape = chosen_shape k c a b i j; inside = λ z e. cc; safe = λ e. let (y, never) = h.safe (and_first c.quiet _ (and_first (c.quiet && (a.quiet || not c.can_true)) _ e)) in cc }

pub equal_sound_truths : (a b : Bounds) (r s : OrFault ℤ) → BoundsHold kinds.Truth a r → BoundsHold kinds.Truth b s → BoundsHold kinds.Truth (equal_bounds a b) (r >>= λ x. s >>= λ y. Ok (number_of (int_eq x y)))
equal_sound_truths a b r s p q =
    two kinds.Truth kinds.Truth kinds.Truth a b _ (λ x y. Ok (number_of (int_eq x y))) (equal_shape (of_truth_value a) _ _ _ _ _)
    (λ x y z i j e.
    let same : number_of (int_eq x y) ≡ z = cc in
    subst (λ w. TruthIn (equal_bounds a b) w) same (equal_truths a b x y i j))
    (λ e. and_parts _ _ (sym (equal_quiet (of_truth_value a) (a.quiet && b.quiet) _ _ _ _) ∙ e))
    (λ e x y i j. (_, refl))
    r s p q

minus_number : (t : Bool) → pos 1 -ℤ number_of t ≡ number_of (not t)
minus_number true = refl
minus_number false = refl

-- `<>` is `not =`
pub not_equal_sound : (a b : Bounds) (r s : OrFault ℤ) → BoundsHold kinds.Truth (equal_bounds a b) (r >>= λ x. s >>= λ y. Ok (number_of (int_eq x y))) → BoundsHold kinds.Truth (opposite (equal_bounds a b)) (r >>= λ x. s >>= λ y. Ok (number_of (not (int_eq x y))))
not_equal_sound a b (Ok x) (Ok y) p =
    subst (λ w. BoundsHold kinds.Truth (opposite (equal_bounds a b)) (Ok w)) (minus_number (int_eq x y)) (not_sound (equal_bounds a b) (Ok (number_of (int_eq x y))) p)
not_equal_sound a b (Ok x) (Err f) p = not_sound (equal_bounds a b) (Err f) p
not_equal_sound a b (Err f) s p = not_sound (equal_bounds a b) (Err f) p
