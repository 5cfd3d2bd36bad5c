-- A number for which a comparison is true, or false, lies among the numbers that are left.
use Rattle.std.proofs.Common.{◌≡◌, ℤ, pos, ◌+ℤ◌, ◌-ℤ◌, ◌≤ℤ◌, int_le, int_lt, Bool, true, false, not, cond, Ok, refl, ap, arith}
use Rattle.std.specs.Ordering.{int_eq}
use Rattle.std.proofs.lemmas.Int.{ints, clamps}
use Rattle.std.specs.Int.Signed.{≤ℤ_refl}
use Rattle.sig_base.proofs.Tests.{true-int_le}
use Rattle.model_core.specs.EventGraph.{Operator, Equal, NotEqual, Below, AtMost, Above, AtLeast}
use Rattle.model_core.specs.Run.Value.{number_of, operate}
use Rattle.bound_laws.proofs.Soundness.Ends.{lt_of, of_not_lt, of_not_le}
use Rattle.model_core.specs.declared.var_range.VarRange.{VarRange}
use Rattle.model_core.specs.Ranges.OtherRanges.{LiesIn}
use Rattle.model_core.specs.Ranges.Refined.{numbers_left, opposite_comparison}
use Rattle.model_core.proofs.SameExpressions.{true-int_eq}

pub number_of-injective : (a b : Bool) → number_of a ≡ number_of b → a ≡ b
number_of-injective true true e = refl
number_of-injective true false e = cc
number_of-injective false true e = cc
number_of-injective false false e = refl

not_not : (a b : Bool) → not a ≡ b → a ≡ not b
not_not true b e = ap not e
not_not false b e = ap not e

-- one end moves where it is n
moved_low : (b : Bool) (n lo x : ℤ) → int_eq lo n ≡ b → int_eq x n ≡ false → lo ≤ℤ x → cond b (lo +ℤ pos 1) lo ≤ℤ x
moved_low true n lo x at other le = grind (arith, ints)
moved_low false n lo x at other le = le

moved_high : (b : Bool) (n hi x : ℤ) → int_eq hi n ≡ b → int_eq x n ≡ false → x ≤ℤ hi → x ≤ℤ cond b (hi -ℤ pos 1) hi
moved_high true n hi x at other le = grind (arith, ints)
moved_high false n hi x at other le = le

-- of one comparison
below_left : (n x : ℤ) (r : VarRange) → LiesIn r x → int_lt x n ≡ true → LiesIn (numbers_left Below n r) x
below_left n x r i e = record { low = i.low; high = omega (arith, ints, clamps, lt_of x n e, i.high) }

at_most_left : (n x : ℤ) (r : VarRange) → LiesIn r x → int_le x n ≡ true → LiesIn (numbers_left AtMost n r) x
at_most_left n x r i e = record { low = i.low; high = omega (arith, ints, clamps, true-int_le x n e, i.high) }

above_left : (n x : ℤ) (r : VarRange) → LiesIn r x → int_le x n ≡ false → LiesIn (numbers_left Above n r) x
above_left n x r i e = record { low = omega (arith, ints, clamps, of_not_le x n e, i.low); high = i.high }

at_least_left : (n x : ℤ) (r : VarRange) → LiesIn r x → int_lt x n ≡ false → LiesIn (numbers_left AtLeast n r) x
at_least_left n x r i e = record { low = omega (arith, ints, clamps, of_not_lt x n e, i.low); high = i.high }

equal_left : (n x : ℤ) (r : VarRange) → LiesIn r x → int_eq x n ≡ true → LiesIn (numbers_left Equal n r) x
equal_left n x r i e = let same : x ≡ n = true-int_eq x n e in record { low = omega (arith, ints, clamps, i.low); high = omega (arith, ints, clamps, i.high) }

not_equal_left : (n x : ℤ) (r : VarRange) → LiesIn r x → int_eq x n ≡ false → LiesIn (numbers_left NotEqual n r) x
not_equal_left n x r i e = record { low = moved_low _ n r.lo x refl e i.low; high = moved_high _ n r.hi x refl e i.high }

-- what is left lies in the range
pub up_by : (b : Bool) (lo : ℤ) → lo ≤ℤ cond b (lo +ℤ pos 1) lo
up_by true lo = omega (arith, ints)
up_by false lo = omega (arith, ints)

pub down_by : (b : Bool) (hi : ℤ) → cond b (hi -ℤ pos 1) hi ≤ℤ hi
down_by true hi = omega (arith, ints)
down_by false hi = omega (arith, ints)

pub low_left : (op : Operator) (n : ℤ) (r : VarRange) → r.lo ≤ℤ (numbers_left op n r).lo
low_left Above n r = omega (arith, ints, clamps)
low_left AtLeast n r = omega (arith, ints, clamps)
low_left Equal n r = omega (arith, ints, clamps)
low_left NotEqual n r = up_by (int_eq r.lo n) r.lo
low_left op n r = ≤ℤ_refl r.lo

pub high_left : (op : Operator) (n : ℤ) (r : VarRange) → (numbers_left op n r).hi ≤ℤ r.hi
high_left Below n r = omega (arith, ints, clamps)
high_left AtMost n r = omega (arith, ints, clamps)
high_left Equal n r = omega (arith, ints, clamps)
high_left NotEqual n r = down_by (int_eq r.hi n) r.hi
high_left op n r = ≤ℤ_refl r.hi

-- above and at least are below and at most with their operands swapped
lt_swapped : (x n : ℤ) (b : Bool) → int_lt n x ≡ b → int_le x n ≡ not b
lt_swapped x n true e = grind (arith, ints)
lt_swapped x n false e = grind (arith, ints)

le_swapped : (x n : ℤ) (b : Bool) → int_le n x ≡ b → int_lt x n ≡ not b
le_swapped x n true e = grind (arith, ints)
le_swapped x n false e = grind (arith, ints)

-- what is left by a comparison of this value, or by its opposite
pub by_test : (op : Operator) (t : Bool) (n x : ℤ) (r : VarRange) → LiesIn r x → operate op x n ≡ Ok (number_of t) → LiesIn (numbers_left (cond t op (opposite_comparison op)) n r) x
by_test Below true n x r i e = below_left n x r i (number_of-injective (int_lt x n) true cc)
by_test Below false n x r i e = at_least_left n x r i (number_of-injective (int_lt x n) false cc)
by_test AtMost true n x r i e = at_most_left n x r i (number_of-injective (int_le x n) true cc)
by_test AtMost false n x r i e = above_left n x r i (number_of-injective (int_le x n) false cc)
by_test Above true n x r i e = above_left n x r i (lt_swapped x n true (number_of-injective (int_lt n x) true cc))
by_test Above false n x r i e = at_most_left n x r i (lt_swapped x n false (number_of-injective (int_lt n x) false cc))
by_test AtLeast true n x r i e = at_least_left n x r i (le_swapped x n true (number_of-injective (int_le n x) true cc))
by_test AtLeast false n x r i e = below_left n x r i (le_swapped x n false (number_of-injective (int_le n x) false cc))
by_test Equal true n x r i e = equal_left n x r i (number_of-injective (int_eq x n) true cc)
by_test Equal false n x r i e = not_equal_left n x r i (number_of-injective (int_eq x n) false cc)
by_test NotEqual true n x r i e = not_equal_left n x r i (not_not (int_eq x n) true (number_of-injective (not (int_eq x n)) true cc))
by_test NotEqual false n x r i e = equal_left n x r i (not_not (int_eq x n) false (number_of-injective (not (int_eq x n)) false cc))
by_test op true n x r i e = i
by_test op false n x r i e = i
