-- The table is sound: an induction over the expression.
use Rattle.std.proofs.Common.{◌≡◌, ℕ, ◌^◌, ◌<◌, zero, suc, ℤ, pos, negsuc, neg_ℤ, ◌≤ℤ◌, ◌<ℤ◌, Bool, true, false, not, cond, ◌&&◌, int_le, int_div, nat_lt, List, Ok, Err, refl, sym, ap, ◌∙◌, subst, arith}
use Rattle.std.proofs.lemmas.Int.{ints}
use Rattle.std.proofs.lemmas.Option.{get_or_from_slice_get}
use Rattle.std.proofs.lemmas.Bool.Decides.{nat_tests}
use Rattle.sig_base.specs.declared.fault.FaultKind.TheVariants as faults
use Rattle.model_core.specs.declared.model.Kind.{Kind}
use Rattle.model_core.specs.declared.model.Kind.TheVariants as kinds
use Rattle.model_core.specs.Run.State.{State, Place, no_variable, cell_at, cell_count, variable_at}
use Rattle.model_core.specs.Run.Value.{OrFault, ◌>>=◌, number_of, value_of, indexed}
use Rattle.model_core.specs.EventGraph.{EventGraph, Variable, Expression, Number, Truth, Clock, Scalar, Cell, Negative, Not, Binary, If, Add, Subtract, Multiply, Divide, Remainder, Least, Greatest, Equal, NotEqual, Below, AtMost, Above, AtLeast, And, Or}
use Rattle.std.specs.Ordering.{int_eq}
use Rattle.sig_base.proofs.Tests.{true-int_le}
use Rattle.model_core.specs.declared.bounds.Bounds.{Bounds}
use Rattle.model_core.specs.Rules.BoundsTable.{number_bounds, truth_bounds, kind_bounds, variable_bounds, quiet_index, equal_bounds, exact_bounds, quotient_bounds, has_zero, magnitude, bounds_of_ends}
use Rattle.model_core.specs.Rules.BoundsOf.{Guard, ranged_at, bounds_under}
use Rattle.model_core.specs.Static.HasKind.{IsVariable, HasKind}
use Rattle.model_core.specs.Rules.BoundsHold.{NumberIn, TruthIn, IsIn}
use Rattle.model_core.specs.Rules.RangesHold.{LikeDeclared, ZeroToOne, LiesWithin, GuardHolds}
use Rattle.bound_laws.proofs.Soundness.Promise.{HasShape, NumberShape, BoundsHold, BoundsAlwaysHold}
use Rattle.bound_laws.proofs.Soundness.Ends.{lt_of}
use Rattle.model_core.proofs.BothTrue.{and_first, and_second}
use Rattle.bound_laws.proofs.Soundness.NumberRows.{number_shape, exact_bounds-shape, truth_shape, add_sound, subtract_sound, multiply_sound, negate_sound, divide_sound, remainder_sound, least_sound, greatest_sound, below_sound, above_sound, at_most_sound, at_least_sound}
use Rattle.bound_laws.proofs.Soundness.TruthRows.{not_sound, and_sound, or_sound, equal_shape, equal_sound_numbers, equal_sound_truths, not_equal_sound, if_sound, chosen_shape}

as_number : (P : Kind → Type 0) (k : Kind) → k ≡ kinds.Range → P kinds.Range → P k
as_number P k is p = subst P (sym is) p

as_truth : (P : Kind → Type 0) (k : Kind) → k ≡ kinds.Truth → P kinds.Truth → P k
as_truth P k is p = subst P (sym is) p

-- the kind that the variable of a scalar or an array is of
variable_kind : (g : EventGraph) (v : ℕ) (array : Bool) (k : Kind) → IsVariable g.variables v array k → (variable_at g v).kind ≡ k
variable_kind g v array k is = ap (λ w. w.kind) (get_or_from_slice_get g.variables v is.variable no_variable is.there) ∙ is.of_kind

kind_shape : (k : Kind) (lo hi : ℤ) (q : Bool) → HasShape k (kind_bounds k lo hi q)
kind_shape kinds.Range lo hi q = number_shape
kind_shape kinds.Truth lo hi q = truth_shape

one_or_zero : (x : ℤ) (q : Bool) → pos 0 ≤ℤ x → x ≤ℤ pos 1 → TruthIn (truth_bounds true true q) x
one_or_zero (pos zero) q a b = record { truth = false; value = refl; can = refl }
one_or_zero (pos (suc zero)) q a b = record { truth = true; value = refl; can = refl }
one_or_zero (pos (suc (suc n))) q a b = absurd (omega (arith, ints))
one_or_zero (negsuc n) q a b = absurd (omega (arith, ints))

kind_in : (k : Kind) (lo hi x : ℤ) (q : Bool) → lo ≤ℤ x → x ≤ℤ hi → (k ≡ kinds.Truth → (lo ≡ pos 0) × (hi ≡ pos 1)) → IsIn k (kind_bounds k lo hi q) x
kind_in kinds.Range lo hi x q a b truth = record { low = a; high = b }
kind_in kinds.Truth lo hi x q a b truth =
    let (zero_lo, one_hi) = truth refl in
    one_or_zero x q (subst (λ w. w ≤ℤ x) zero_lo a) (subst (λ w. x ≤ℤ w) one_hi b)

zero_one-of : (w : Variable) → (w.kind ≡ kinds.Truth → ZeroToOne w) → w.kind ≡ kinds.Truth → (w.lo ≡ pos 0) × (w.hi ≡ pos 1)
zero_one-of w h e = let z = h e in (z.low, z.high)

cond_shape : (t : Bool) (c d : Bounds) → NumberShape c → NumberShape d → NumberShape (cond t c d)
cond_shape true c d i j = i
cond_shape false c d i j = j

quotient_shape : (a b : Bounds) → NumberShape (quotient_bounds a b)
quotient_shape a b = cond_shape (has_zero b) (exact_bounds (neg_ℤ (pos (magnitude a))) (pos (magnitude a)) false) (bounds_of_ends int_div a b (a.quiet && b.quiet)) (exact_bounds-shape _ _ _) (exact_bounds-shape _ _ _)

can_itself : (b : Bool) → cond b b (not b) ≡ true
can_itself true = refl
can_itself false = refl

-- the shape of bounds is that of the kind
shaped : (g : EventGraph) (s : State) (clk : ℕ) (under : Guard) → GuardHolds g s clk under → (e : Expression) (k : Kind) (ranges : List Variable) → HasKind g.variables e k → LikeDeclared g ranges → HasShape k (bounds_under under ranges e)
shaped g s clk under guard (Number n) k ranges is alike = as_number (λ k. HasShape k (number_bounds n n true)) k is number_shape
shaped g s clk under guard (Truth b) k ranges is alike = as_truth (λ k. HasShape k (truth_bounds (not b) b true)) k is truth_shape
shaped g s clk under guard Clock k ranges is alike = as_number (λ k. HasShape k (bounds_under under ranges Clock)) k is number_shape
shaped g s clk under guard (Scalar v) k ranges is alike =
    subst (λ k. HasShape k (bounds_under under ranges (Scalar v))) (alike.kinds v ∙ variable_kind g v false k is) (kind_shape (ranged_at ranges v).kind _ _ _)
shaped g s clk under guard (Cell v e) k ranges is alike =
    subst (λ k. HasShape k (bounds_under under ranges (Cell v e))) (alike.kinds v ∙ variable_kind g v true k is.0) (kind_shape (ranged_at ranges v).kind _ _ _)
shaped g s clk under guard (Negative a) k ranges is alike = as_number (λ k. HasShape k (bounds_under under ranges (Negative a))) k is.0 (exact_bounds-shape _ _ _)
shaped g s clk under guard (Not a) k ranges is alike = as_truth (λ k. HasShape k (bounds_under under ranges (Not a))) k is.0 truth_shape
shaped g s clk under guard (Binary Add a b) k ranges is alike = as_number (λ k. HasShape k (bounds_under under ranges (Binary Add a b))) k is.0 (exact_bounds-shape _ _ _)
shaped g s clk under guard (Binary Subtract a b) k ranges is alike = as_number (λ k. HasShape k (bounds_under under ranges (Binary Subtract a b))) k is.0 (exact_bounds-shape _ _ _)
shaped g s clk under guard (Binary Multiply a b) k ranges is alike = as_number (λ k. HasShape k (bounds_under under ranges (Binary Multiply a b))) k is.0 (exact_bounds-shape _ _ _)
shaped g s clk under guard (Binary Divide a b) k ranges is alike = as_number (λ k. HasShape k (bounds_under under ranges (Binary Divide a b))) k is.0 (quotient_shape (bounds_under under ranges a) (bounds_under under ranges b))
shaped g s clk under guard (Binary Remainder a b) k ranges is alike = as_number (λ k. HasShape k (bounds_under under ranges (Binary Remainder a b))) k is.0 number_shape
shaped g s clk under guard (Binary Least a b) k ranges is alike = as_number (λ k. HasShape k (bounds_under under ranges (Binary Least a b))) k is.0 number_shape
shaped g s clk under guard (Binary Greatest a b) k ranges is alike = as_number (λ k. HasShape k (bounds_under under ranges (Binary Greatest a b))) k is.0 number_shape
shaped g s clk under guard (Binary Equal a b) k ranges is alike = as_truth (λ k. HasShape k (bounds_under under ranges (Binary Equal a b))) k is.0 (equal_shape _ _ _ _ _ _)
shaped g s clk under guard (Binary NotEqual a b) k ranges is alike = as_truth (λ k. HasShape k (bounds_under under ranges (Binary NotEqual a b))) k is.0 truth_shape
shaped g s clk under guard (Binary Below a b) k ranges is alike = as_truth (λ k. HasShape k (bounds_under under ranges (Binary Below a b))) k is.0 truth_shape
shaped g s clk under guard (Binary AtMost a b) k ranges is alike = as_truth (λ k. HasShape k (bounds_under under ranges (Binary AtMost a b))) k is.0 truth_shape
shaped g s clk under guard (Binary Above a b) k ranges is alike = as_truth (λ k. HasShape k (bounds_under under ranges (Binary Above a b))) k is.0 truth_shape
shaped g s clk under guard (Binary AtLeast a b) k ranges is alike = as_truth (λ k. HasShape k (bounds_under under ranges (Binary AtLeast a b))) k is.0 truth_shape
shaped g s clk under guard (Binary And a b) k ranges is alike = as_truth (λ k. HasShape k (bounds_under under ranges (Binary And a b))) k is.0 truth_shape
shaped g s clk under guard (Binary Or a b) k ranges is alike = as_truth (λ k. HasShape k (bounds_under under ranges (Binary Or a b))) k is.0 truth_shape
shaped g s clk under guard (If c a b) k ranges is alike =
    chosen_shape k (bounds_under under ranges c) _ _ (shaped g s clk under guard a k (under c true ranges) is.1 (guard.alike c true ranges alike)) (shaped g s clk under guard b k (under c false ranges) is.2 (guard.alike c false ranges alike))

-- a cell at a value of the index
cell_in-cases : (t : Bool) (g : EventGraph) (s : State) (ranges : List Variable) → LikeDeclared g ranges → LiesWithin s ranges → (v i : ℕ) (q : Bool) (x : ℤ) → nat_lt i (variable_at g v).size ≡ t → (let r : OrFault Place = cond t (Ok (record { variable = v; index = i })) (Err faults.IndexOutside) in (r >>= λ p. Ok (cell_at s p)) ≡ Ok x) → IsIn (ranged_at ranges v).kind (variable_bounds (ranged_at ranges v) q) x
cell_in-cases true g s ranges alike holds v i q x e done =
    let same : cell_at s (record { variable = v; index = i }) ≡ x = cc in
    let size = alike.sizes v in
    let below : i < (variable_at g v).size = grind (arith, nat_tests) in
    let count : i < cell_count (ranged_at ranges v) = omega arith in
    subst (λ w. IsIn (ranged_at ranges v).kind (variable_bounds (ranged_at ranges v) q) w) same (kind_in (ranged_at ranges v).kind _ _ _ q (holds.low v i count) (holds.high v i count) (zero_one-of (ranged_at ranges v) (holds.zero_one v)))
cell_in-cases false g s ranges alike holds v i q x e done = cc

cell_in : (g : EventGraph) (s : State) (ranges : List Variable) → LikeDeclared g ranges → LiesWithin s ranges → (v : ℕ) (q : Bool) (y x : ℤ) → (Ok y >>= indexed g v >>= λ p. Ok (cell_at s p)) ≡ Ok x → IsIn (ranged_at ranges v).kind (variable_bounds (ranged_at ranges v) q) x
cell_in g s ranges alike holds v q (pos i) x e = cell_in-cases (nat_lt i (variable_at g v).size) g s ranges alike holds v i q x refl e
cell_in g s ranges alike holds v q (negsuc i) x e = cc

index_at : (g : EventGraph) (v : ℕ) (y : ℤ) → pos 0 ≤ℤ y → y <ℤ pos (variable_at g v).size → (p : Place) × (indexed g v y ≡ Ok p) × (p.variable ≡ v)
index_at g v (pos i) a b =
    let test : nat_lt i (variable_at g v).size ≡ true = grind (arith, ints, nat_tests) in
    (record { variable = v; index = i }, rw test refl, refl)
index_at g v (negsuc i) a b = absurd (omega (arith, ints))

-- a quiet index names a place, whatever the range of the array is
pub index_named : (g : EventGraph) (v : ℕ) (w : Variable) (b : Bounds) (r : OrFault ℤ) → w.size ≡ (variable_at g v).size → BoundsHold kinds.Range b r → quiet_index w b ≡ true → (p : Place) × ((r >>= indexed g v) ≡ Ok p) × (p.variable ≡ v)
index_named g v w b r size h e =
    let before = and_first (b.quiet && int_le (pos 0) b.lo) _ e in
    let (y, is) = h.safe (and_first b.quiet _ before) in
    let i : NumberIn b y = h.inside y is in
    let low : pos 0 ≤ℤ b.lo = true-int_le (pos 0) b.lo (and_second b.quiet _ before) in
    let high : b.hi <ℤ pos (variable_at g v).size = subst (λ n. b.hi <ℤ pos n) size (lt_of b.hi (pos w.size) (and_second (b.quiet && int_le (pos 0) b.lo) _ e)) in
    let (p, at, of) = index_at g v y (omega (arith, ints)) (omega (arith, ints)) in
    (p, rw is at, of)

kind_quiet : (k : Kind) (lo hi : ℤ) (q : Bool) → (kind_bounds k lo hi q).quiet ≡ q
kind_quiet kinds.Range lo hi q = refl
kind_quiet kinds.Truth lo hi q = refl

cell_safe : (g : EventGraph) (s : State) (ranges : List Variable) → LikeDeclared g ranges → (v : ℕ) (b : Bounds) (r : OrFault ℤ) → BoundsHold kinds.Range b r → (variable_bounds (ranged_at ranges v) (quiet_index (ranged_at ranges v) b)).quiet ≡ true → (x : ℤ) × ((r >>= indexed g v >>= λ p. Ok (cell_at s p)) ≡ Ok x)
cell_safe g s ranges alike v b r h e =
    let w = ranged_at ranges v in
    let (p, at, of) = index_named g v w b r (alike.sizes v) h (sym (kind_quiet w.kind w.lo w.hi (quiet_index w b)) ∙ e) in
    (cell_at s p, rw at refl)

cell_sound : (g : EventGraph) (s : State) (ranges : List Variable) → LikeDeclared g ranges → LiesWithin s ranges → (v : ℕ) (b : Bounds) (r : OrFault ℤ) → BoundsHold kinds.Range b r → BoundsHold (ranged_at ranges v).kind (variable_bounds (ranged_at ranges v) (quiet_index (ranged_at ranges v) b)) (r >>= indexed g v >>= λ p. Ok (cell_at s p))
cell_sound g s ranges alike holds v b (Ok y) h = record {
  shape = kind_shape (ranged_at ranges v).kind _ _ _;
  inside = λ x e. cell_in g s ranges alike holds v _ y x e;
  safe = cell_safe g s ranges alike v b (Ok y) h;
}
cell_sound g s ranges alike holds v b (Err f) h = record {
  shape = kind_shape (ranged_at ranges v).kind _ _ _;
  inside = λ x e. cc;
  safe = cell_safe g s ranges alike v b (Err f) h;
}

-- `=` of operands of one kind
equal_sound : (k : Kind) (a b : Bounds) (r s : OrFault ℤ) → BoundsHold k a r → BoundsHold k b s → BoundsHold kinds.Truth (equal_bounds a b) (r >>= λ x. s >>= λ y. Ok (number_of (int_eq x y)))
equal_sound kinds.Range a b r s p q = equal_sound_numbers a b r s p q
equal_sound kinds.Truth a b r s p q = equal_sound_truths a b r s p q

pub sound : BoundsAlwaysHold
sound g s clk under inside guard (Number n) k ranges is alike holds =
    as_number (λ k. BoundsHold k (number_bounds n n true) (Ok n)) k is (record { shape = number_shape; inside = λ x e. let same : n ≡ x = cc in record { low = omega (arith, ints); high = omega (arith, ints) }; safe = λ e. (n, refl) })
sound g s clk under inside guard (Truth b) k ranges is alike holds =
    as_truth (λ k. BoundsHold k (truth_bounds (not b) b true) (Ok (number_of b))) k is (record { shape = truth_shape; inside = λ x e. let same : number_of b ≡ x = cc in record { truth = b; value = sym same; can = can_itself b }; safe = λ e. (_, refl) })
sound g s clk under inside guard Clock k ranges is alike holds =
    as_number (λ k. BoundsHold k (number_bounds (pos 0) (pos (2 ^ 48)) true) (Ok (pos clk))) k is (record { shape = number_shape; inside = λ x e. let same : pos clk ≡ x = cc in record { low = omega (arith, ints); high = omega (arith, ints) }; safe = λ e. (_, refl) })
sound g s clk under inside guard (Scalar v) k ranges is alike holds =
    subst (λ k. BoundsHold k (variable_bounds (ranged_at ranges v) true) (Ok (cell_at s (record { variable = v; index = 0 })))) (alike.kinds v ∙ variable_kind g v false k is)
    (record {
      shape = kind_shape (ranged_at ranges v).kind _ _ _;
      inside = λ x e. let same : cell_at s (record { variable = v; index = 0 }) ≡ x = cc in subst (λ w. IsIn (ranged_at ranges v).kind (variable_bounds (ranged_at ranges v) true) w) same (kind_in (ranged_at ranges v).kind _ _ _ true (holds.low v 0 (omega arith)) (holds.high v 0 (omega arith)) (zero_one-of (ranged_at ranges v) (holds.zero_one v)));
      safe = λ e. (_, refl);
    })
sound g s clk under inside guard (Cell v e) k ranges is alike holds =
    subst (λ k. BoundsHold k (bounds_under under ranges (Cell v e)) (value_of g s clk (Cell v e))) (alike.kinds v ∙ variable_kind g v true k is.0)
    (cell_sound g s ranges alike holds v (bounds_under under ranges e) (value_of g s clk e) (sound g s clk under inside guard e kinds.Range ranges is.1 alike holds))
sound g s clk under inside guard (Negative a) k ranges is alike holds =
    as_number (λ k. BoundsHold k (bounds_under under ranges (Negative a)) (value_of g s clk (Negative a))) k is.0
    (negate_sound _ _ (sound g s clk under inside guard a kinds.Range ranges is.1 alike holds))
sound g s clk under inside guard (Not a) k ranges is alike holds =
    as_truth (λ k. BoundsHold k (bounds_under under ranges (Not a)) (value_of g s clk (Not a))) k is.0
    (not_sound _ _ (sound g s clk under inside guard a kinds.Truth ranges is.1 alike holds))
sound g s clk under inside guard (If c a b) k ranges is alike holds =
    if_sound k _ _ _ _ _ _ (sound g s clk under inside guard c kinds.Truth ranges is.0 alike holds)
    (shaped g s clk under guard a k (under c true ranges) is.1 (guard.alike c true ranges alike))
    (shaped g s clk under guard b k (under c false ranges) is.2 (guard.alike c false ranges alike))
    (λ e. sound g s clk under inside guard a k (under c true ranges) is.1 (guard.alike c true ranges alike) (guard.holds c true ranges is.0 holds e))
    (λ e. sound g s clk under inside guard b k (under c false ranges) is.2 (guard.alike c false ranges alike) (guard.holds c false ranges is.0 holds e))
sound g s clk under inside guard (Binary And a b) k ranges is alike holds =
    as_truth (λ k. BoundsHold k (bounds_under under ranges (Binary And a b)) (value_of g s clk (Binary And a b))) k is.0
    (and_sound _ _ _ _ (sound g s clk under inside guard a kinds.Truth ranges is.1.0 alike holds)
    (λ e. sound g s clk under inside guard b kinds.Truth (under a true ranges) is.1.1 (guard.alike a true ranges alike) (guard.holds a true ranges is.1.0 holds e)))
sound g s clk under inside guard (Binary Or a b) k ranges is alike holds =
    as_truth (λ k. BoundsHold k (bounds_under under ranges (Binary Or a b)) (value_of g s clk (Binary Or a b))) k is.0
    (or_sound _ _ _ _ (sound g s clk under inside guard a kinds.Truth ranges is.1.0 alike holds)
    (λ e. sound g s clk under inside guard b kinds.Truth (under a false ranges) is.1.1 (guard.alike a false ranges alike) (guard.holds a false ranges is.1.0 holds e)))
sound g s clk under inside guard (Binary Add a b) k ranges is alike holds =
    as_number (λ k. BoundsHold k (bounds_under under ranges (Binary Add a b)) (value_of g s clk (Binary Add a b))) k is.0
    (add_sound _ _ _ _ (sound g s clk under inside guard a kinds.Range ranges is.1.0 alike holds) (sound g s clk under inside guard b kinds.Range ranges is.1.1 alike holds))
sound g s clk under inside guard (Binary Subtract a b) k ranges is alike holds =
    as_number (λ k. BoundsHold k (bounds_under under ranges (Binary Subtract a b)) (value_of g s clk (Binary Subtract a b))) k is.0
    (subtract_sound _ _ _ _ (sound g s clk under inside guard a kinds.Range ranges is.1.0 alike holds) (sound g s clk under inside guard b kinds.Range ranges is.1.1 alike holds))
sound g s clk under inside guard (Binary Multiply a b) k ranges is alike holds =
    as_number (λ k. BoundsHold k (bounds_under under ranges (Binary Multiply a b)) (value_of g s clk (Binary Multiply a b))) k is.0
    (multiply_sound _ _ _ _ (sound g s clk under inside guard a kinds.Range ranges is.1.0 alike holds) (sound g s clk under inside guard b kinds.Range ranges is.1.1 alike holds))
sound g s clk under inside guard (Binary Divide a b) k ranges is alike holds =
    as_number (λ k. BoundsHold k (bounds_under under ranges (Binary Divide a b)) (value_of g s clk (Binary Divide a b))) k is.0
    (divide_sound _ _ _ _ (sound g s clk under inside guard a kinds.Range ranges is.1.0 alike holds) (sound g s clk under inside guard b kinds.Range ranges is.1.1 alike holds))
sound g s clk under inside guard (Binary Remainder a b) k ranges is alike holds =
    as_number (λ k. BoundsHold k (bounds_under under ranges (Binary Remainder a b)) (value_of g s clk (Binary Remainder a b))) k is.0
    (remainder_sound _ _ _ _ (sound g s clk under inside guard a kinds.Range ranges is.1.0 alike holds) (sound g s clk under inside guard b kinds.Range ranges is.1.1 alike holds))
sound g s clk under inside guard (Binary Least a b) k ranges is alike holds =
    as_number (λ k. BoundsHold k (bounds_under under ranges (Binary Least a b)) (value_of g s clk (Binary Least a b))) k is.0
    (least_sound _ _ _ _ (sound g s clk under inside guard a kinds.Range ranges is.1.0 alike holds) (sound g s clk under inside guard b kinds.Range ranges is.1.1 alike holds))
sound g s clk under inside guard (Binary Greatest a b) k ranges is alike holds =
    as_number (λ k. BoundsHold k (bounds_under under ranges (Binary Greatest a b)) (value_of g s clk (Binary Greatest a b))) k is.0
    (greatest_sound _ _ _ _ (sound g s clk under inside guard a kinds.Range ranges is.1.0 alike holds) (sound g s clk under inside guard b kinds.Range ranges is.1.1 alike holds))
sound g s clk under inside guard (Binary Below a b) k ranges is alike holds =
    as_truth (λ k. BoundsHold k (bounds_under under ranges (Binary Below a b)) (value_of g s clk (Binary Below a b))) k is.0
    (below_sound _ _ _ _ (sound g s clk under inside guard a kinds.Range ranges is.1.0 alike holds) (sound g s clk under inside guard b kinds.Range ranges is.1.1 alike holds))
sound g s clk under inside guard (Binary AtMost a b) k ranges is alike holds =
    as_truth (λ k. BoundsHold k (bounds_under under ranges (Binary AtMost a b)) (value_of g s clk (Binary AtMost a b))) k is.0
    (at_most_sound _ _ _ _ (sound g s clk under inside guard a kinds.Range ranges is.1.0 alike holds) (sound g s clk under inside guard b kinds.Range ranges is.1.1 alike holds))
sound g s clk under inside guard (Binary Above a b) k ranges is alike holds =
    as_truth (λ k. BoundsHold k (bounds_under under ranges (Binary Above a b)) (value_of g s clk (Binary Above a b))) k is.0
    (above_sound _ _ _ _ (sound g s clk under inside guard a kinds.Range ranges is.1.0 alike holds) (sound g s clk under inside guard b kinds.Range ranges is.1.1 alike holds))
sound g s clk under inside guard (Binary AtLeast a b) k ranges is alike holds =
    as_truth (λ k. BoundsHold k (bounds_under under ranges (Binary AtLeast a b)) (value_of g s clk (Binary AtLeast a b))) k is.0
    (at_least_sound _ _ _ _ (sound g s clk under inside guard a kinds.Range ranges is.1.0 alike holds) (sound g s clk under inside guard b kinds.Range ranges is.1.1 alike holds))
sound g s clk under inside guard (Binary Equal a b) k ranges is alike holds =
    as_truth (λ k. BoundsHold k (bounds_under under ranges (Binary Equal a b)) (value_of g s clk (Binary Equal a b))) k is.0
    (equal_sound is.1.0 _ _ _ _ (sound g s clk under inside guard a is.1.0 ranges is.1.1 alike holds) (sound g s clk under inside guard b is.1.0 ranges is.1.2 alike holds))
sound g s clk under inside guard (Binary NotEqual a b) k ranges is alike holds =
    as_truth (λ k. BoundsHold k (bounds_under under ranges (Binary NotEqual a b)) (value_of g s clk (Binary NotEqual a b))) k is.0
    (not_equal_sound (bounds_under under ranges a) (bounds_under under ranges b) (value_of g s clk a) (value_of g s clk b)
    (equal_sound is.1.0 _ _ _ _ (sound g s clk under inside guard a is.1.0 ranges is.1.1 alike holds) (sound g s clk under inside guard b is.1.0 ranges is.1.2 alike holds)))
