-- The ranges that are left where an expression is known to be true, or to be false.
use Rattle.std.specs.Prelude.{ℤ, pos, ◌+ℤ◌, ◌-ℤ◌, int_le, Bool, false, not, ◌&&◌, cond, List, slice_set, Option, Some, None}
use Rattle.std.specs.Ordering.{int_eq}
use Rattle.std.specs.Int.{int_min, int_max}
use Rattle.model_core.specs.EventGraph.{Variable, Expression, Scalar, Not, Binary, Operator, Equal, NotEqual, Below, AtMost, Above, AtLeast, And, Or}
use Rattle.model_core.specs.Run.State.{is_array}
use Rattle.model_core.specs.Rules.BoundsOf.{Guard, ranged_at}
use Rattle.model_core.specs.Rules.BoundsOfParts.{is_truth_kind}
use Rattle.model_core.specs.Rules.Exclusive.{literal_number}
use Rattle.model_core.specs.declared.var_range.VarRange.{VarRange}
use Rattle.model_core.specs.Ranges.OtherRanges.{declared_range, with_range}

-- the least interval that holds the numbers of a range for which this comparison with n holds. Where there is none, its
-- lower end is above its upper one
abbrev pub numbers_left : Operator → ℤ → VarRange → VarRange
numbers_left Below n r = record r { hi = int_min r.hi (n -ℤ pos 1) }
numbers_left AtMost n r = record r { hi = int_min r.hi n }
numbers_left Above n r = record r { lo = int_max r.lo (n +ℤ pos 1) }
numbers_left AtLeast n r = record r { lo = int_max r.lo n }
numbers_left Equal n r = record { lo = int_max r.lo n; hi = int_min r.hi n }
numbers_left NotEqual n r = record { lo = cond (int_eq r.lo n) (r.lo +ℤ pos 1) r.lo; hi = cond (int_eq r.hi n) (r.hi -ℤ pos 1) r.hi }
numbers_left op n r = r

-- the comparison that holds where this one doesn't
abbrev pub opposite_comparison : Operator → Operator
opposite_comparison Below = AtLeast
opposite_comparison AtMost = Above
opposite_comparison Above = AtMost
opposite_comparison AtLeast = Below
opposite_comparison Equal = NotEqual
opposite_comparison NotEqual = Equal
opposite_comparison op = op

-- a scalar that holds whole numbers
abbrev pub is_number_scalar : Variable → Bool
is_number_scalar v = not (is_array v) && not (is_truth_kind v.kind)

-- the variable with this range, or as it is where the range is empty
abbrev pub unless_empty : Variable → VarRange → Variable
unless_empty v r = cond (int_le r.lo r.hi) (with_range v r) v

-- the variable where a comparison of it with this literal, if it is one, holds
abbrev pub where_holds : Operator → Option ℤ → Variable → Variable
where_holds op None v = v
where_holds op (Some n) v = cond (is_number_scalar v) (unless_empty v (numbers_left op n (declared_range v))) v

-- the ranges that a comparison, which is true or false, leaves for the variable on its left
abbrev pub ranges_refined_by : Operator → Expression → Expression → Bool → List Variable → List Variable
ranges_refined_by op (Scalar v) right b ranges =
    slice_set ranges v (where_holds (cond b op (opposite_comparison op)) (literal_number right) (ranged_at ranges v))
ranges_refined_by op left right b ranges = ranges

-- an `and` that is true, or an `or` that is false: both operands have that truth value
abbrev pub refines_both : Operator → Bool → Bool
refines_both And b = b
refines_both Or b = not b
refines_both op b = false

-- the ranges where an expression is true, or is false
abbrev pub refined : Guard
refined (Not a) b ranges = refined a (not b) ranges
refined (Binary op left right) b ranges =
    cond (refines_both op b) (refined right b (refined left b ranges)) (ranges_refined_by op left right b ranges)
refined e b ranges = ranges
