-- Conditions of urgent edges that compare the same with numbers.
use Rattle.std.specs.Prelude.{◌≡◌, ℤ, Bool, true, false, not, ◌&&◌, cond, List, [], ◌∷◌, map, filter, Option, Some, None, length, nat_le}
use Rattle.std.specs.List.{list_all}
use Rattle.std.specs.Option.{option_map_or, option_and_then}
use Rattle.sig_base.specs.declared.limits.TheConstants.{EDGES_MAX}
use Rattle.model_core.specs.EventGraph.{EventGraph, EventEdge, Expression, Truth, Binary}
use Rattle.model_core.specs.Rules.BoundsTable.{fits}
use Rattle.model_core.specs.Rules.Exclusive.{same_expression, literal_number, Comparison, comparison_of, some_meets_both}
use Rattle.model_core.specs.Code.Views.{operator_of}
use Rattle.range_bounds.specs.LiveEdges.{is_live}
use Rattle.range_bounds.specs.declared.compared_alike.Compared.{Compared}

-- the conditions of those edges that are live
abbrev pub live_conditions : EventGraph → List EventEdge → List Expression
live_conditions g edges = map (λ (e : EventEdge). e.condition) (filter (is_live g) edges)

-- what an operator of two operands has on its left
abbrev pub left_operand : Expression → Option Expression
left_operand (Binary op a b) = Some a
left_operand e = None

-- the left operand of the first of these conditions
abbrev pub first_left : List Expression → Option Expression
first_left [] = None
first_left (c ∷ cs) = left_operand c

-- the number of a literal with a sign or without, if that has 64 bits
abbrev pub short_literal : Expression → Option ℤ
short_literal e = option_and_then (λ n. cond (fits n) (Some n) None) (literal_number e)

-- the comparison of an expression with a number
abbrev pub comparison_with : Expression → Compared → Comparison
comparison_with left c = record { left = left; operator = operator_of c.op; number = c.number }

-- a condition compares this expression with a number of 64 bits
abbrev pub compares_this : Expression → Expression → Bool
compares_this left condition = option_map_or (λ (c : Comparison). same_expression c.left left && fits c.number) (comparison_of condition) false

-- these conditions, no more than an array holds, all compare what the first one compares
abbrev pub all_compare_this : Expression → List Expression → Bool
all_compare_this left cs = list_all (compares_this left) cs && nat_le (length cs) EDGES_MAX

abbrev pub all_compare_alike : List Expression → Bool
all_compare_alike cs = option_map_or (λ left. all_compare_this left cs) (first_left cs) false

-- no whole number meets both
abbrev pub never_both : Compared → Compared → Bool
never_both c d = not (some_meets_both (comparison_with (Truth true) c) (comparison_with (Truth true) d))

-- the live edges' conditions are these comparisons of an expression
abbrev pub AreCompared : EventGraph → Expression → List EventEdge → List Compared → Type 0
AreCompared g left edges all = map comparison_of (live_conditions g edges) ≡ map (λ (c : Compared). Some (comparison_with left c)) all
