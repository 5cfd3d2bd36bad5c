-- Parts that read no variable whose range moved: what variables take by them is what it was.
use Rattle.std.proofs.Common.{◌≡◌, ◌≢◌, ◌<◌, ◌≤◌, ◌==◌, nat_lt, ℕ, Bool, true, false, not, cond, List, ◌++◌, length, slice_set, refl, sym, ◌∙◌, ap, ap₂, subst, arith}
use Rattle.std.specs.List.{AllByRecursion}
use Rattle.std.proofs.lemmas.Bool.Decides.{nat_tests}
use Rattle.std.proofs.lemmas.List.{length-set, get_or-set_same, get_or-set_other, set_past}
use Rattle.model_core.specs.declared.bounds.Bounds.{Bounds}
use Rattle.model_core.specs.EventGraph.{Variable, Operator, And, Or, Expression, Number, Truth, Clock, Scalar, Cell, Negative, Not, Binary, If}
use Rattle.model_core.specs.Run.State.{no_variable}
use Rattle.model_core.specs.Rules.BoundsTable.{variable_bounds, quiet_index, negative_bounds, opposite, operator_bounds, chosen_bounds}
use Rattle.model_core.specs.Rules.BoundsOf.{ranged_at, beside, bounds_under}
use Rattle.model_core.specs.Rules.Exclusive.{literal_number}
use Rattle.model_core.specs.Rules.Uses.{variables_in}
use Rattle.model_core.specs.Ranges.Refined.{opposite_comparison, where_holds, ranges_refined_by, refines_both, refined}
use Rattle.model_core.proofs.EachOne.{every-front, every-after}
use Rattle.range_infer.specs.Inner.Moved.{is_moved}

module _ (moved : List Bool) where
  -- the same ranges, but where they moved
  pub record StayElsewhere (old new : List Variable) : Type 0 where
    pub as_many : length old ≡ length new
    pub each : (v : ℕ) → is_moved moved v ≡ false → ranged_at old v ≡ ranged_at new v

  abbrev pub Unmoved : List ℕ → Type 0
  Unmoved = AllByRecursion (λ v. is_moved moved v ≡ false)

  -- ---- one range is put in its place

  put : (old new : List Variable) (v : ℕ) (x y : Variable) → x ≡ y → StayElsewhere old new → StayElsewhere (slice_set old v x) (slice_set new v y)
  put old new v x y same stay = record {
    as_many = length-set old v x ∙ (stay.as_many ∙ sym (length-set new v y));
    each = λ w still. by w still (nat_lt v (length old)) (w == v) refl refl;
  } where
    by : (w : ℕ) → is_moved moved w ≡ false → (there here : Bool) → nat_lt v (length old) ≡ there → (w == v) ≡ here → ranged_at (slice_set old v x) w ≡ ranged_at (slice_set new v y) w
    by w still false here e f =
        let past : length old ≤ v = grind (arith, nat_tests) in
        ap (λ (vs : List Variable). ranged_at vs w) (set_past old v x past) ∙ (stay.each w still ∙ sym (ap (λ (vs : List Variable). ranged_at vs w) (set_past new v y (omega (arith, past, stay.as_many)))))
    by w still true true e f =
        let small : v < length old = grind (arith, nat_tests) in
        let is : w ≡ v = grind (arith, nat_tests) in
        subst (λ (w : ℕ). ranged_at (slice_set old v x) w ≡ ranged_at (slice_set new v y) w) (sym is)
        (get_or-set_same old v x no_variable small ∙ (same ∙ sym (get_or-set_same new v y no_variable (omega (arith, small, stay.as_many)))))
    by w still true false e f =
        let other : w ≢ v = grind (arith, nat_tests) in
        get_or-set_other old v w x no_variable other ∙ (stay.each w still ∙ sym (get_or-set_other new v w y no_variable other))

  -- ---- what is known of an expression

  compared : (op : Operator) (left right : Expression) (b : Bool) (old new : List Variable) → StayElsewhere old new → Unmoved (variables_in left) → StayElsewhere (ranges_refined_by op left right b old) (ranges_refined_by op left right b new)
  compared op (Scalar v) right b old new stay still =
      let f : Variable → Variable = where_holds (cond b op (opposite_comparison op)) (literal_number right) in
      put old new v (f (ranged_at old v)) (f (ranged_at new v)) (ap f (stay.each v still.0)) stay
  compared op (Number n) right b old new stay still = stay
  compared op (Truth t) right b old new stay still = stay
  compared op Clock right b old new stay still = stay
  compared op (Cell v e) right b old new stay still = stay
  compared op (Negative a) right b old new stay still = stay
  compared op (Not a) right b old new stay still = stay
  compared op (Binary o a c) right b old new stay still = stay
  compared op (If c x y) right b old new stay still = stay

  either : (t : Bool) (old other new changed : List Variable) → StayElsewhere old new → StayElsewhere other changed → StayElsewhere (cond t old other) (cond t new changed)
  either true old other new changed first second = first
  either false old other new changed first second = second

  pub refined_stays : (e : Expression) (b : Bool) (old new : List Variable) → StayElsewhere old new → Unmoved (variables_in e) → StayElsewhere (refined e b old) (refined e b new)
  refined_stays (Not a) b old new stay still = refined_stays a (not b) old new stay still
  refined_stays (Binary op left right) b old new stay still =
      let first = every-front (λ v. is_moved moved v ≡ false) (variables_in left) (variables_in right) still in
      let second = every-after (λ v. is_moved moved v ≡ false) (variables_in left) (variables_in right) still in
      either (refines_both op b) (refined right b (refined left b old)) (ranges_refined_by op left right b old) (refined right b (refined left b new)) (ranges_refined_by op left right b new)
      (refined_stays right b (refined left b old) (refined left b new) (refined_stays left b old new stay first) second) (compared op left right b old new stay first)
  refined_stays (Number n) b old new stay still = stay
  refined_stays (Truth t) b old new stay still = stay
  refined_stays Clock b old new stay still = stay
  refined_stays (Scalar v) b old new stay still = stay
  refined_stays (Cell v e) b old new stay still = stay
  refined_stays (Negative a) b old new stay still = stay
  refined_stays (If c x y) b old new stay still = stay

  beside_stays : (op : Operator) (a : Expression) (old new : List Variable) → StayElsewhere old new → Unmoved (variables_in a) → StayElsewhere (beside refined op a old) (beside refined op a new)
  beside_stays And a old new stay still = refined_stays a true old new stay still
  beside_stays Or a old new stay still = refined_stays a false old new stay still
  beside_stays op a old new stay still = stay

  -- ---- the bounds of an expression

  pub bounds_stay : (e : Expression) (old new : List Variable) → StayElsewhere old new → Unmoved (variables_in e) → bounds_under refined old e ≡ bounds_under refined new e
  bounds_stay (Number n) old new stay still = refl
  bounds_stay (Truth t) old new stay still = refl
  bounds_stay Clock old new stay still = refl
  bounds_stay (Scalar v) old new stay still = ap (λ (w : Variable). variable_bounds w true) (stay.each v still.0)
  bounds_stay (Cell v e) old new stay still = ap₂ (λ (w : Variable) (b : Bounds). variable_bounds w (quiet_index w b)) (stay.each v still.0) (bounds_stay e old new stay still.1)
  bounds_stay (Negative a) old new stay still = ap negative_bounds (bounds_stay a old new stay still)
  bounds_stay (Not a) old new stay still = ap opposite (bounds_stay a old new stay still)
  bounds_stay (Binary op a b) old new stay still =
      let first = every-front (λ v. is_moved moved v ≡ false) (variables_in a) (variables_in b) still in
      let second = every-after (λ v. is_moved moved v ≡ false) (variables_in a) (variables_in b) still in
      ap₂ (operator_bounds op) (bounds_stay a old new stay first) (bounds_stay b (beside refined op a old) (beside refined op a new) (beside_stays op a old new stay first) second)
  bounds_stay (If c a b) old new stay still =
      let both = every-front (λ v. is_moved moved v ≡ false) (variables_in c ++ variables_in a) (variables_in b) still in
      let test = every-front (λ v. is_moved moved v ≡ false) (variables_in c) (variables_in a) both in
      let yes = bounds_stay a (refined c true old) (refined c true new) (refined_stays c true old new stay test) (every-after (λ v. is_moved moved v ≡ false) (variables_in c) (variables_in a) both) in
      let no = bounds_stay b (refined c false old) (refined c false new) (refined_stays c false old new stay test) (every-after (λ v. is_moved moved v ≡ false) (variables_in c ++ variables_in a) (variables_in b) still) in
      ap₂ (λ (x y : Bounds). chosen_bounds x y (bounds_under refined (refined c false old) b)) (bounds_stay c old new stay test) yes
      ∙ ap (chosen_bounds (bounds_under refined new c) (bounds_under refined (refined c true new) a)) no
