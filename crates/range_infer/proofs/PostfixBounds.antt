-- A walk over the postfix form of an expression finds its bounds, and leaves the ranges that are left where it has a value.
use Rattle.std.proofs.Common.{◌≡◌, ℕ, ℤ, Bool, true, false, not, cond, List, [], ◌∷◌, ◌++◌, slice_set, Option, Some, None, refl, sym, ◌∙◌, ap, ap₂}
use Rattle.std.specs.List.{fold}
use Rattle.std.specs.Option.{option_map}
use Rattle.std.proofs.lemmas.List.{set-get_or}
use Rattle.std.proofs.lemmas.List.Sums.{fold-append}
use Rattle.model_core.specs.declared.op.Op.{Op}
use Rattle.model_core.specs.declared.op.Op.TheVariants as ops
use Rattle.model_core.specs.declared.bounds.Bounds.{Bounds}
use Rattle.model_core.specs.EventGraph.{Variable, Operator, Add, And, Or, Expression, Scalar, Cell, Negative, Not, Binary, If}
use Rattle.model_core.specs.Run.State.{no_variable}
use Rattle.model_core.specs.Code.Views.{operator_of}
use Rattle.model_core.specs.Rules.BoundsTable.{operator_bounds}
use Rattle.model_core.specs.Rules.BoundsOf.{ranged_at, beside, bounds_under}
use Rattle.model_core.specs.Rules.Exclusive.{number_literal, literal_number}
use Rattle.model_core.specs.Ranges.Refined.{opposite_comparison, where_holds, ranges_refined_by, refines_both, refined}
use Rattle.range_infer.specs.declared.postfix.PostfixItem.{PostfixItem}
use Rattle.range_infer.specs.declared.postfix.PostfixItem.TheVariants as items
use Rattle.range_infer.specs.Inner.Postfix.{op_of, number_items, literal_items, compared_items, left_items, refines_both_where, left_by, with_right, guard_of, with_operands, postfix_of, Walk, signed_number, is_of_ranges, after_item, walked}

same_operator : (op : Operator) → operator_of (op_of op) ≡ op
same_operator Add = refl
same_operator op = refl

pub same_op : (op : Op) → op_of (operator_of op) ≡ op
same_op ops.Add = refl
same_op op = refl

-- ---- one walk after another

abbrev pub walk : Walk → List PostfixItem → Walk
walk = fold walked

abbrev bounds : List Variable → Expression → Bounds
bounds = bounds_under refined

abbrev pub walk_with : List Variable → List (List Variable) → List Bounds → Walk
walk_with rs kept found = record { ranges = rs; kept = kept; found = found }

both : (w : Walk) (xs ys : List PostfixItem) (first second : Walk) → walk w xs ≡ first → walk first ys ≡ second → walk w (xs ++ ys) ≡ second
both w xs ys first second one two = fold-append walked w xs ys ∙ (ap (λ (v : Walk). walk v ys) one ∙ two)

-- ---- what a comparison leaves

module _ (kept : List (List Variable)) (found : List Bounds) where
  abbrev ranges_at : List Variable → Walk
  ranges_at rs = walk_with rs kept found

  number_left : (op : Op) (v : ℕ) (negative : Bool) (n : Option ℤ) (rs : List Variable) → walk (ranges_at rs) (number_items op v negative n) ≡ ranges_at (slice_set rs v (where_holds (operator_of op) (option_map (signed_number negative) n) (ranged_at rs v)))
  number_left op v negative None rs = ap ranges_at (sym (set-get_or rs v no_variable))
  number_left op v negative (Some n) rs = refl

  literal_left : (op : Op) (v : ℕ) (e : Expression) (rs : List Variable) → walk (ranges_at rs) (literal_items op v e) ≡ ranges_at (slice_set rs v (where_holds (operator_of op) (literal_number e) (ranged_at rs v)))
  literal_left op v (Negative a) rs = number_left op v true (number_literal a) rs
  literal_left op v e rs = number_left op v false (number_literal e) rs

  compared_left : (op : Operator) (a c : Expression) (b : Bool) (rs : List Variable) → walk (ranges_at rs) (compared_items op a c b) ≡ ranges_at (ranges_refined_by op a c b rs)
  compared_left op (Scalar v) c b rs =
      let o = cond b op (opposite_comparison op) in
      literal_left (op_of o) v c rs ∙ ap (λ (o : Operator). ranges_at (slice_set rs v (where_holds o (literal_number c) (ranged_at rs v)))) (same_operator o)
  compared_left op a c b rs = refl

  either_left : (t : Bool) (w : Walk) (xs ys : List PostfixItem) (one other : List Variable) → walk w xs ≡ ranges_at one → walk w ys ≡ ranges_at other → walk w (cond t xs ys) ≡ ranges_at (cond t one other)
  either_left true w xs ys one other first second = first
  either_left false w xs ys one other first second = second

  refined_left : (e : Expression) (b : Bool) (rs : List Variable) → walk (ranges_at rs) (left_items e b) ≡ ranges_at (refined e b rs)
  refined_left (Not a) b rs = refined_left a (not b) rs
  refined_left (Binary op a c) b rs =
      either_left (refines_both op b) (ranges_at rs) (left_items a b ++ left_items c b) (compared_items op a c b) (refined c b (refined a b rs)) (ranges_refined_by op a c b rs)
      (both (ranges_at rs) (left_items a b) (left_items c b) (ranges_at (refined a b rs)) (ranges_at (refined c b (refined a b rs))) (refined_left a b rs) (refined_left c b (refined a b rs)))
      (compared_left op a c b rs)
  refined_left e b rs = refl

-- ---- what is left after an expression

abbrev ranges_left_after : Expression → Option Bool → List Variable → List Variable
ranges_left_after e None rs = rs
ranges_left_after e (Some b) rs = refined e b rs

-- the expression says nothing of the ranges
unrefined : (e : Expression) (m : Option Bool) (rs : List Variable) → ((b : Bool) → refined e b rs ≡ rs) → rs ≡ ranges_left_after e m rs
unrefined e None rs stays = refl
unrefined e (Some b) rs stays = sym (stays b)

negated-left : (a : Expression) (m : Option Bool) (rs : List Variable) → ranges_left_after a (option_map not m) rs ≡ ranges_left_after (Not a) m rs
negated-left a None rs = refl
negated-left a (Some b) rs = refl

-- if the value of the operator gives the values of both operands, the right one is evaluated where the left one has its value
refines_both-beside : (op : Operator) (a : Expression) (b : Bool) (rs : List Variable) → refines_both op b ≡ true → refined a b rs ≡ beside refined op a rs
refines_both-beside And a true rs is_so = refl
refines_both-beside And a false rs is_so = cc
refines_both-beside Or a true rs is_so = cc
refines_both-beside Or a false rs is_so = refl
refines_both-beside op a b rs is_so = cc

refined-both : (op : Operator) (a c : Expression) (b : Bool) (rs : List Variable) → refines_both op b ≡ true → refined c b (refined a b rs) ≡ refined (Binary op a c) b rs
refined-both op a c b rs is_so = sym (ap (λ (t : Bool). cond t (refined c b (refined a b rs)) (ranges_refined_by op a c b rs)) is_so)

refined-not_both : (op : Operator) (a c : Expression) (b : Bool) (rs : List Variable) → refines_both op b ≡ false → ranges_refined_by op a c b rs ≡ refined (Binary op a c) b rs
refined-not_both op a c b rs none = sym (ap (λ (t : Bool). cond t (refined c b (refined a b rs)) (ranges_refined_by op a c b rs)) none)

-- ---- operands and their operator

-- a walk over the items of the expression finds its bounds, under any ranges
abbrev IsFound : Expression → Type 0
IsFound e = (m : Option Bool) (rs : List Variable) (kept : List (List Variable)) (found : List Bounds) → walk (walk_with rs kept found) (postfix_of e m) ≡ walk_with (ranges_left_after e m rs) kept (bounds rs e ∷ found)

module _ (kept : List (List Variable)) (found : List Bounds) where
  by_items : (op : Operator) (c : Expression) (a : Bounds) (rs : List Variable) → IsFound c → walk (walk_with rs kept (a ∷ found)) (postfix_of c None ++ items.Operator (op_of op) ∷ []) ≡ walk_with rs kept (operator_bounds op a (bounds rs c) ∷ found)
  by_items op c a rs right =
      both (walk_with rs kept (a ∷ found)) (postfix_of c None) (items.Operator (op_of op) ∷ []) (walk_with rs kept (bounds rs c ∷ a ∷ found)) (walk_with rs kept (operator_bounds op a (bounds rs c) ∷ found)) (right None rs kept (a ∷ found))
      (ap (λ (o : Operator). walk_with rs kept (operator_bounds o a (bounds rs c) ∷ found)) (same_operator op))

  right_found : (op : Operator) (c : Expression) (a : Bounds) (rs : List Variable) → IsFound c → walk (walk_with rs kept (a ∷ found)) (with_right op c (postfix_of c None)) ≡ walk_with rs kept (operator_bounds op a (bounds rs c) ∷ found)
  right_found op (Scalar v) a rs right = ap (λ (o : Operator). walk_with rs kept (operator_bounds o a (bounds rs (Scalar v)) ∷ found)) (same_operator op)
  right_found op c a rs right = by_items op c a rs right

  module _ (a c : Expression) (left : IsFound a) (right : IsFound c) (rs : List Variable) where
    abbrev operated_to : Operator → Walk
    operated_to op = walk_with rs kept (operator_bounds op (bounds rs a) (bounds (beside refined op a rs) c) ∷ found)

    plain_found : (op : Operator) → walk (walk_with rs kept found) (postfix_of a None ++ with_right op c (postfix_of c None)) ≡ walk_with rs kept (operator_bounds op (bounds rs a) (bounds rs c) ∷ found)
    plain_found op =
        both (walk_with rs kept found) (postfix_of a None) (with_right op c (postfix_of c None)) (walk_with rs kept (bounds rs a ∷ found)) (walk_with rs kept (operator_bounds op (bounds rs a) (bounds rs c) ∷ found)) (left None rs kept found)
        (right_found op c (bounds rs a) rs right)

    -- the right operand is evaluated where the left one has this value
    guarded_found : (op : Op) (b : Bool) → walk (walk_with rs (rs ∷ kept) found) (postfix_of a (Some b) ++ (postfix_of c None ++ items.PutBack ∷ items.Operator op ∷ [])) ≡ walk_with rs kept (operator_bounds (operator_of op) (bounds rs a) (bounds (refined a b rs) c) ∷ found)
    guarded_found op b =
        let holds = refined a b rs in
        let end : Walk = walk_with rs kept (operator_bounds (operator_of op) (bounds rs a) (bounds holds c) ∷ found) in
        both (walk_with rs (rs ∷ kept) found) (postfix_of a (Some b)) (postfix_of c None ++ items.PutBack ∷ items.Operator op ∷ []) (walk_with holds (rs ∷ kept) (bounds rs a ∷ found)) end (left (Some b) rs (rs ∷ kept) found)
        (both (walk_with holds (rs ∷ kept) (bounds rs a ∷ found)) (postfix_of c None) (items.PutBack ∷ items.Operator op ∷ []) (walk_with holds (rs ∷ kept) (bounds holds c ∷ bounds rs a ∷ found)) end (right None holds (rs ∷ kept) (bounds rs a ∷ found)) refl)

    operands_found : (op : Operator) → walk (walk_with rs kept found) (with_operands (guard_of op) op c (postfix_of a) (postfix_of c)) ≡ operated_to op
    operands_found And = guarded_found ops.And true
    operands_found Or = guarded_found ops.Or false
    operands_found op = plain_found op

    -- the values of both operands are known
    refines_both-found : (op : Operator) (b : Bool) → refines_both op b ≡ true → walk (walk_with rs kept found) (postfix_of a (Some b) ++ (postfix_of c (Some b) ++ items.Operator (op_of op) ∷ [])) ≡ walk_with (refined (Binary op a c) b rs) kept (operator_bounds op (bounds rs a) (bounds (beside refined op a rs) c) ∷ found)
    refines_both-found op b is_so =
        let holds = refined a b rs in
        let end : Walk = walk_with (refined (Binary op a c) b rs) kept (operator_bounds op (bounds rs a) (bounds (beside refined op a rs) c) ∷ found) in
        both (walk_with rs kept found) (postfix_of a (Some b)) (postfix_of c (Some b) ++ items.Operator (op_of op) ∷ []) (walk_with holds kept (bounds rs a ∷ found)) end (left (Some b) rs kept found)
        (both (walk_with holds kept (bounds rs a ∷ found)) (postfix_of c (Some b)) (items.Operator (op_of op) ∷ []) (walk_with (refined c b holds) kept (bounds holds c ∷ bounds rs a ∷ found)) end (right (Some b) holds kept (bounds rs a ∷ found))
        (ap (λ (o : Operator). walk_with (refined c b holds) kept (operator_bounds o (bounds rs a) (bounds holds c) ∷ found)) (same_operator op)
        ∙ ap₂ (λ (vs ws : List Variable). walk_with vs kept (operator_bounds op (bounds rs a) (bounds ws c) ∷ found)) (refined-both op a c b rs is_so) (refines_both-beside op a b rs is_so)))

    -- and if they aren't, the comparison itself says what is left
    left_found : (op : Operator) (m : Option Bool) (fs : List Bounds) → refines_both_where op m ≡ false → walk (walk_with rs kept fs) (left_by op a c m) ≡ walk_with (ranges_left_after (Binary op a c) m rs) kept fs
    left_found op None fs none = refl
    left_found op (Some b) fs none = compared_left kept fs op a c b rs ∙ ap (λ (vs : List Variable). walk_with vs kept fs) (refined-not_both op a c b rs none)

    binary_found : (op : Operator) (m : Option Bool) → walk (walk_with rs kept found) (postfix_of (Binary op a c) m) ≡ walk_with (ranges_left_after (Binary op a c) m rs) kept (operator_bounds op (bounds rs a) (bounds (beside refined op a rs) c) ∷ found)
    binary_found op m = by m (refines_both_where op m) refl where
      both_items : Option Bool → List PostfixItem
      both_items m = postfix_of a m ++ (postfix_of c m ++ items.Operator (op_of op) ∷ [])

      one_items : Option Bool → List PostfixItem
      one_items m = with_operands (guard_of op) op c (postfix_of a) (postfix_of c) ++ left_by op a c m

      end : Option Bool → Walk
      end m = walk_with (ranges_left_after (Binary op a c) m rs) kept (operator_bounds op (bounds rs a) (bounds (beside refined op a rs) c) ∷ found)

      by : (m : Option Bool) (t : Bool) → refines_both_where op m ≡ t → walk (walk_with rs kept found) (cond t (both_items m) (one_items m)) ≡ end m
      by None true is = cc
      by (Some b) true is = refines_both-found op b is
      by m false is =
          both (walk_with rs kept found) (with_operands (guard_of op) op c (postfix_of a) (postfix_of c)) (left_by op a c m) (operated_to op) (end m) (operands_found op)
          (left_found op m (operator_bounds op (bounds rs a) (bounds (beside refined op a rs) c) ∷ found) is)

-- ---- a test, and what counts where it holds and where it doesn't

module _ (c a b : Expression) (test : IsFound c) (first : IsFound a) (second : IsFound b) (rs : List Variable) (kept : List (List Variable)) (found : List Bounds) where
  if_found : walk (walk_with rs kept found) (postfix_of (If c a b) None) ≡ walk_with rs kept (bounds rs (If c a b) ∷ found)
  if_found =
      let holds = refined c true rs in
      let fails = refined c false rs in
      let one : List Bounds = bounds rs c ∷ found in
      let two : List Bounds = bounds holds a ∷ bounds rs c ∷ found in
      let end : Walk = walk_with rs kept (bounds rs (If c a b) ∷ found) in
      let last : List PostfixItem = items.PutBack ∷ items.Chosen ∷ [] in
      let middle : List PostfixItem = items.PutBack ∷ items.Kept ∷ [] in
      both (walk_with rs (rs ∷ kept) found) (postfix_of c (Some true)) (postfix_of a None ++ middle ++ (left_items c false ++ (postfix_of b None ++ last))) (walk_with holds (rs ∷ kept) one) end (test (Some true) rs (rs ∷ kept) found)
      (both (walk_with holds (rs ∷ kept) one) (postfix_of a None ++ middle) (left_items c false ++ (postfix_of b None ++ last)) (walk_with rs (rs ∷ kept) two) end
      (both (walk_with holds (rs ∷ kept) one) (postfix_of a None) middle (walk_with holds (rs ∷ kept) two) (walk_with rs (rs ∷ kept) two) (first None holds (rs ∷ kept) one) refl)
      (both (walk_with rs (rs ∷ kept) two) (left_items c false) (postfix_of b None ++ last) (walk_with fails (rs ∷ kept) two) end (refined_left (rs ∷ kept) two c false rs)
      (both (walk_with fails (rs ∷ kept) two) (postfix_of b None) last (walk_with fails (rs ∷ kept) (bounds fails b ∷ two)) end (second None fails (rs ∷ kept) two) refl)))

-- ---- all forms

-- an expression that says nothing of the ranges, and whose bounds were found under the same ranges
nothing_refined : (e : Expression) (m : Option Bool) (rs : List Variable) (kept : List (List Variable)) (found : List Bounds) → ((b : Bool) → refined e b rs ≡ rs) → walk_with rs kept found ≡ walk_with (ranges_left_after e m rs) kept found
nothing_refined e m rs kept found stays = ap (λ (vs : List Variable). walk_with vs kept found) (unrefined e m rs stays)

pub is_found : (e : Expression) → IsFound e
is_found (Cell v e) m rs kept found =
    both (walk_with rs kept found) (postfix_of e None) (items.CellOf v ∷ []) (walk_with rs kept (bounds rs e ∷ found)) (walk_with (ranges_left_after (Cell v e) m rs) kept (bounds rs (Cell v e) ∷ found)) (is_found e None rs kept found)
    (nothing_refined (Cell v e) m rs kept (bounds rs (Cell v e) ∷ found) (λ b. refl))
is_found (Negative a) m rs kept found =
    both (walk_with rs kept found) (postfix_of a None) (items.Negated ∷ []) (walk_with rs kept (bounds rs a ∷ found)) (walk_with (ranges_left_after (Negative a) m rs) kept (bounds rs (Negative a) ∷ found)) (is_found a None rs kept found)
    (nothing_refined (Negative a) m rs kept (bounds rs (Negative a) ∷ found) (λ b. refl))
is_found (Not a) m rs kept found =
    let others = ranges_left_after a (option_map not m) rs in
    both (walk_with rs kept found) (postfix_of a (option_map not m)) (items.Opposite ∷ []) (walk_with others kept (bounds rs a ∷ found)) (walk_with (ranges_left_after (Not a) m rs) kept (bounds rs (Not a) ∷ found)) (is_found a (option_map not m) rs kept found)
    (ap (λ (vs : List Variable). walk_with vs kept (bounds rs (Not a) ∷ found)) (negated-left a m rs))
is_found (Binary op a c) m rs kept found = binary_found kept found a c (is_found a) (is_found c) rs op m
is_found (If c a b) m rs kept found = if_found c a b (is_found c) (is_found a) (is_found b) rs kept found ∙ nothing_refined (If c a b) m rs kept (bounds rs (If c a b) ∷ found) (λ t. refl)
is_found e m rs kept found = nothing_refined e m rs kept (bounds rs e ∷ found) (λ b. refl)

-- ---- one item

-- an item either says under which ranges the next ones are evaluated, or is walked over under those that are there
pub of_ranges : (w : Walk) (i : PostfixItem) → is_of_ranges i ≡ true → (walked w i).found ≡ w.found
of_ranges w items.Kept is = refl
of_ranges w items.PutBack is = by w.kept where
  by : (kept : List (List Variable)) → (walked (walk_with w.ranges kept w.found) items.PutBack).found ≡ w.found
  by [] = refl
  by (r ∷ kept) = refl
of_ranges w (items.Left op v negative n) is = refl
of_ranges w i is = cc

pub of_operands : (w : Walk) (i : PostfixItem) → is_of_ranges i ≡ false → walked w i ≡ walk_with w.ranges w.kept (after_item w.ranges w.found i)
of_operands w items.Kept is = cc
of_operands w items.PutBack is = cc
of_operands w (items.Left op v negative n) is = cc
of_operands w i is = refl

-- what is found last is the bounds of the expression
pub last_is : (e : Expression) (rs : List Variable) (xs : List PostfixItem) → xs ≡ postfix_of e None → (before : List Bounds) (last : Bounds) (others : List Bounds) → last ∷ others ≡ (walk (walk_with rs [] before) xs).found → last ≡ bounds rs e
last_is e rs xs are before last others found =
    let all : Walk = walk_with rs [] (bounds rs e ∷ before) in
    let is : last ∷ others ≡ bounds rs e ∷ before = found ∙ ap (λ (w : Walk). w.found) (ap (walk (walk_with rs [] before)) are ∙ is_found e None rs [] before) in
    cc
