-- Expressions in postfix form, in which each operator comes after its operands, and their bounds by a walk over that. If a part
-- is evaluated under other ranges, items before it say which.
use Rattle.std.specs.Prelude.{ℕ, ◌^◌, ℤ, pos, neg_ℤ, Bool, true, false, not, cond, List, [], ◌∷◌, ◌++◌, slice_set, Option, Some, None}
use Rattle.std.specs.Option.{option_map}
use Rattle.model_core.specs.declared.op.Op.{Op}
use Rattle.model_core.specs.declared.op.Op.TheVariants as ops
use Rattle.model_core.specs.declared.bounds.Bounds.{Bounds}
use Rattle.model_core.specs.EventGraph.{Variable, Operator, Add, Subtract, Multiply, Divide, Remainder, Least, Greatest, Equal, NotEqual, Below, AtMost, Above, AtLeast, And, Or, Expression, Number, Truth, Clock, Scalar, Cell, Negative, Not, Binary, If}
use Rattle.model_core.specs.Code.Views.{operator_of}
use Rattle.model_core.specs.Rules.BoundsTable.{number_bounds, truth_bounds, variable_bounds, quiet_index, negative_bounds, opposite, operator_bounds, chosen_bounds}
use Rattle.model_core.specs.Rules.BoundsOf.{ranged_at}
use Rattle.model_core.specs.Rules.Exclusive.{number_literal}
use Rattle.model_core.specs.Ranges.Refined.{opposite_comparison, where_holds, refines_both}
use Rattle.range_infer.specs.declared.postfix.PostfixItem.{PostfixItem}
use Rattle.range_infer.specs.declared.postfix.PostfixItem.TheVariants as items

-- the operator of the code for this one
abbrev pub op_of : Operator → Op
op_of Add = ops.Add
op_of Subtract = ops.Sub
op_of Multiply = ops.Mul
op_of Divide = ops.Div
op_of Remainder = ops.Rem
op_of Least = ops.Min
op_of Greatest = ops.Max
op_of Equal = ops.Eq
op_of NotEqual = ops.Ne
op_of Below = ops.Lt
op_of AtMost = ops.Le
op_of Above = ops.Gt
op_of AtLeast = ops.Ge
op_of And = ops.And
op_of Or = ops.Or

-- ---- the items of an expression

-- The items of an expression. After them the ranges are those where it has a value, or, with no value, those before it.
abbrev pub Form : Type 0
Form = Option Bool → List PostfixItem

-- what a comparison with a literal, if it is one, leaves of a variable
abbrev pub number_items : Op → ℕ → Bool → Option ℤ → List PostfixItem
number_items op v negative None = []
number_items op v negative (Some n) = items.Left op v negative n ∷ []

abbrev pub literal_items : Op → ℕ → Expression → List PostfixItem
literal_items op v (Negative a) = number_items op v true (number_literal a)
literal_items op v e = number_items op v false (number_literal e)

abbrev pub compared_items : Operator → Expression → Expression → Bool → List PostfixItem
compared_items op (Scalar v) right b = literal_items (op_of (cond b op (opposite_comparison op))) v right
compared_items op left right b = []

-- what is left where an expression has this value
abbrev pub left_items : Expression → Bool → List PostfixItem
left_items (Not a) b = left_items a (not b)
left_items (Binary op a c) b = cond (refines_both op b) (left_items a b ++ left_items c b) (compared_items op a c b)
left_items e b = []

abbrev pub refines_both_where : Operator → Option Bool → Bool
refines_both_where op None = false
refines_both_where op (Some b) = refines_both op b

abbrev pub left_by : Operator → Expression → Expression → Option Bool → List PostfixItem
left_by op a c None = []
left_by op a c (Some b) = compared_items op a c b

-- a right operand, of which this is the postfix form, and the operator
abbrev pub with_right : Operator → Expression → List PostfixItem → List PostfixItem
with_right op (Scalar v) right = items.Beside (op_of op) v ∷ []
with_right op e right = right ++ items.Operator (op_of op) ∷ []

-- what is known where the right operand is evaluated: that the left one has this value, or nothing
abbrev pub guard_of : Operator → Option Bool
guard_of And = Some true
guard_of Or = Some false
guard_of op = None

abbrev pub with_operands : Option Bool → Operator → Expression → Form → Form → List PostfixItem
with_operands None op c first second = first None ++ with_right op c (second None)
with_operands (Some b) op c first second = items.Kept ∷ (first (Some b) ++ (second None ++ items.PutBack ∷ items.Operator (op_of op) ∷ []))

abbrev pub postfix_of : Expression → Form
postfix_of (Number n) m = items.Number n ∷ []
postfix_of (Truth b) m = items.Truth b ∷ []
postfix_of Clock m = items.Clock ∷ []
postfix_of (Scalar v) m = items.Variable v ∷ []
postfix_of (Cell v e) m = postfix_of e None ++ items.CellOf v ∷ []
postfix_of (Negative a) m = postfix_of a None ++ items.Negated ∷ []
postfix_of (Not a) m = postfix_of a (option_map not m) ++ items.Opposite ∷ []
postfix_of (Binary op a c) m =
    cond (refines_both_where op m) (postfix_of a m ++ (postfix_of c m ++ items.Operator (op_of op) ∷ []))
    (with_operands (guard_of op) op c (postfix_of a) (postfix_of c) ++ left_by op a c m)
postfix_of (If c a b) m =
    items.Kept ∷ (postfix_of c (Some true) ++ (postfix_of a None ++ (items.PutBack ∷ items.Kept ∷ []) ++ (left_items c false ++ (postfix_of b None ++ items.PutBack ∷ items.Chosen ∷ []))))

-- ---- the walk

-- the ranges under which is evaluated, those that are kept, and the bounds that were found, each with the last ones first
pub record Walk : Type 0 where
  pub ranges : List Variable
  pub kept : List (List Variable)
  pub found : List Bounds

abbrev pub signed_number : Bool → ℤ → ℤ
signed_number negative n = cond negative (neg_ℤ n) n

-- ranges that were kept are put back
abbrev pub put_back_kept : List Variable → List (List Variable) → List Bounds → Walk
put_back_kept ranges [] found = record { ranges = ranges; kept = []; found = found }
put_back_kept ranges (r ∷ kept) found = record { ranges = r; kept = kept; found = found }

-- the result of an operator on the last two operands, and of a test on the last three
abbrev pub operated : Op → List Bounds → List Bounds
operated op (b ∷ a ∷ found) = operator_bounds (operator_of op) a b ∷ found
operated op found = found

abbrev pub chosen : List Bounds → List Bounds
chosen (b ∷ a ∷ c ∷ found) = chosen_bounds c a b ∷ found
chosen (b ∷ a ∷ []) = b ∷ []
chosen found = found

-- the bounds of a cell, from those of its index
abbrev pub cell_bounds : List Variable → ℕ → Bounds → Bounds
cell_bounds ranges v index = variable_bounds (ranged_at ranges v) (quiet_index (ranged_at ranges v) index)

-- the result of an operator on the last operand and a variable
abbrev pub beside_bounds : List Variable → Op → ℕ → Bounds → Bounds
beside_bounds ranges op v a = operator_bounds (operator_of op) a (variable_bounds (ranged_at ranges v) true)

-- the last operand gives way to another one
abbrev pub last_changed : (Bounds → Bounds) → List Bounds → List Bounds
last_changed f [] = []
last_changed f (a ∷ found) = f a ∷ found

-- the bounds that were found after one more item
abbrev pub after_item : List Variable → List Bounds → PostfixItem → List Bounds
after_item ranges found (items.Number n) = number_bounds n n true ∷ found
after_item ranges found (items.Truth b) = truth_bounds (not b) b true ∷ found
after_item ranges found items.Clock = number_bounds (pos 0) (pos (2 ^ 48)) true ∷ found
after_item ranges found (items.Variable v) = variable_bounds (ranged_at ranges v) true ∷ found
after_item ranges found (items.CellOf v) = last_changed (cell_bounds ranges v) found
after_item ranges found items.Negated = last_changed negative_bounds found
after_item ranges found items.Opposite = last_changed opposite found
after_item ranges found (items.Beside op v) = last_changed (beside_bounds ranges op v) found
after_item ranges found (items.Operator op) = operated op found
after_item ranges found items.Chosen = chosen found
after_item ranges found i = found

-- an item that says under which ranges the next ones are evaluated
abbrev pub is_of_ranges : PostfixItem → Bool
is_of_ranges items.Kept = true
is_of_ranges items.PutBack = true
is_of_ranges (items.Left op v negative n) = true
is_of_ranges i = false

-- the walk after one more item
abbrev pub walked : Walk → PostfixItem → Walk
walked w items.Kept = record { ranges = w.ranges; kept = w.ranges ∷ w.kept; found = w.found }
walked w items.PutBack = put_back_kept w.ranges w.kept w.found
walked w (items.Left op v negative n) = record { ranges = slice_set w.ranges v (where_holds (operator_of op) (Some (signed_number negative n)) (ranged_at w.ranges v)); kept = w.kept; found = w.found }
walked w i = record { ranges = w.ranges; kept = w.kept; found = after_item w.ranges w.found i }
