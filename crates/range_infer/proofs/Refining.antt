-- Where an expression has a truth value, a state within ranges lies within those that are left of them.
use Rattle.std.proofs.Common.{◌≡◌, ℕ, ◌<◌, zero, suc, ℤ, pos, ◌-ℤ◌, ◌≤ℤ◌, int_le, Bool, true, false, not, cond, List, [], ◌∷◌, slice_set, Option, Some, None, Ok, Err, refl, sym, ◌∙◌, ap, subst, arith}
use Rattle.std.proofs.lemmas.Int.{ints}
use Rattle.std.proofs.lemmas.Bool.Decides.{nat_tests}
use Rattle.std.proofs.lemmas.Bool.{not-true}
use Rattle.model_core.specs.declared.model.Kind.{Kind}
use Rattle.model_core.specs.declared.model.Kind.TheVariants as kinds
use Rattle.model_core.specs.EventGraph.{EventGraph, Variable, Expression, Scalar, Not, Binary, Operator, And, Or}
use Rattle.model_core.specs.Run.State.{State, scalar, cell_count, cell_at, variable_at, is_array}
use Rattle.model_core.specs.Run.Value.{OrFault, ◌>>=◌, number_of, decided, operate, value_of}
use Rattle.model_core.specs.Static.HasKind.{FitOperands, HasKind}
use Rattle.model_core.specs.Static.Kinds.{operand_kind}
use Rattle.model_core.specs.Rules.BoundsOf.{ranged_at}
use Rattle.model_core.specs.Rules.BoundsOfParts.{is_truth_kind}
use Rattle.model_core.specs.Rules.Exclusive.{literal_number}
use Rattle.model_core.proofs.Results.{bind_ok}
use Rattle.model_core.proofs.BothTrue.{and_first, and_second}
use Rattle.model_core.specs.Rules.RangesHold.{LikeDeclared, ZeroToOne, LiesWithin, GuardHolds}
use Rattle.model_core.specs.declared.var_range.VarRange.{VarRange}
use Rattle.model_core.specs.Ranges.OtherRanges.{LiesIn, declared_range, with_range}
use Rattle.model_core.specs.Ranges.Refined.{numbers_left, opposite_comparison, is_number_scalar, unless_empty, where_holds, ranges_refined_by, refines_both, refined}
use Rattle.bound_laws.proofs.LiteralValues.{literal-value}
use Rattle.range_infer.proofs.NumbersLeft.{by_test}

-- ---- one variable is replaced

-- a fact of each variable in its place holds after one is replaced by another of which it holds
each-after_set : (P : ℕ → Variable → Type 0) (ranges : List Variable) (u : ℕ) (w : Variable) → ((v : ℕ) → P v (ranged_at ranges v)) → P u w → (v : ℕ) → P v (ranged_at (slice_set ranges u w) v)
each-after_set P [] u w each new v = each v
each-after_set P (x ∷ xs) zero w each new zero = new
each-after_set P (x ∷ xs) zero w each new (suc v) = each (suc v)
each-after_set P (x ∷ xs) (suc u) w each new zero = each zero
each-after_set P (x ∷ xs) (suc u) w each new (suc v) = each-after_set (λ k. P (suc k)) xs u w (λ k. each (suc k)) new v

-- ---- kinds and sizes stay

record SameShape (v w : Variable) : Type 0 where
  kind : w.kind ≡ v.kind
  size : w.size ≡ v.size

unless_empty-shape : (v : Variable) (r : VarRange) → SameShape v (unless_empty v r)
unless_empty-shape v r = chosen (int_le r.lo r.hi) where
  chosen : (b : Bool) → SameShape v (cond b (with_range v r) v)
  chosen true = record { kind = refl; size = refl }
  chosen false = record { kind = refl; size = refl }

where_holds-shape : (op : Operator) (o : Option ℤ) (v : Variable) → SameShape v (where_holds op o v)
where_holds-shape op None v = record { kind = refl; size = refl }
where_holds-shape op (Some n) v = chosen (is_number_scalar v) where
  chosen : (b : Bool) → SameShape v (cond b (unless_empty v (numbers_left op n (declared_range v))) v)
  chosen true = unless_empty-shape v (numbers_left op n (declared_range v))
  chosen false = record { kind = refl; size = refl }

module _ (g : EventGraph) where
  ranges_refined_by-alike : (op : Operator) (left right : Expression) (b : Bool) (ranges : List Variable) → LikeDeclared g ranges → LikeDeclared g (ranges_refined_by op left right b ranges)
  ranges_refined_by-alike op (Scalar v) right b ranges alike =
      let shape = where_holds-shape (cond b op (opposite_comparison op)) (literal_number right) (ranged_at ranges v) in
      let Q : ℕ → Variable → Type 0 = λ k w. (w.kind ≡ (variable_at g k).kind) × (w.size ≡ (variable_at g k).size) in
      let each = each-after_set Q ranges v (where_holds (cond b op (opposite_comparison op)) (literal_number right) (ranged_at ranges v)) (λ k. (alike.kinds k, alike.sizes k)) (shape.kind ∙ alike.kinds v, shape.size ∙ alike.sizes v) in
      record { kinds = λ k. (each k).0; sizes = λ k. (each k).1 }
  ranges_refined_by-alike op left right b ranges alike = alike

  chosen-alike : (t : Bool) (a c : List Variable) → LikeDeclared g a → LikeDeclared g c → LikeDeclared g (cond t a c)
  chosen-alike true a c i j = i
  chosen-alike false a c i j = j

  pub refined-alike : (e : Expression) (b : Bool) (ranges : List Variable) → LikeDeclared g ranges → LikeDeclared g (refined e b ranges)
  refined-alike (Not a) b ranges alike = refined-alike a (not b) ranges alike
  refined-alike (Binary op left right) b ranges alike =
      chosen-alike (refines_both op b) (refined right b (refined left b ranges)) (ranges_refined_by op left right b ranges) (refined-alike right b (refined left b ranges) (refined-alike left b ranges alike)) (ranges_refined_by-alike op left right b ranges alike)
  refined-alike e b ranges alike = alike

-- ---- a state stays within the ranges

-- what a variable of such a range holds
record HoldsCells (s : State) (v : ℕ) (w : Variable) : Type 0 where
  cells : (i : ℕ) → i < cell_count w → (w.lo ≤ℤ cell_at s (record { variable = v; index = i })) × (cell_at s (record { variable = v; index = i }) ≤ℤ w.hi)
  truth : w.kind ≡ kinds.Truth → ZeroToOne w

holds_within : (s : State) (ranges : List Variable) → LiesWithin s ranges → (v : ℕ) → HoldsCells s v (ranged_at ranges v)
holds_within s ranges l v = record { cells = λ i small. (l.low v i small, l.high v i small); truth = l.zero_one v }

within_holds : (s : State) (ranges : List Variable) → ((v : ℕ) → HoldsCells s v (ranged_at ranges v)) → LiesWithin s ranges
within_holds s ranges each = record { low = λ v i small. ((each v).cells i small).0; high = λ v i small. ((each v).cells i small).1; zero_one = λ v. (each v).truth }

-- a scalar has one cell
one_cell : (v : Variable) (i : ℕ) → is_array v ≡ false → i < cell_count v → i ≡ 0
one_cell v i scalar_so small = grind (arith, nat_tests)

truth_is_no_number : (k : Kind) → is_truth_kind k ≡ false → k ≡ kinds.Truth → ⊥
truth_is_no_number kinds.Truth e same = cc
truth_is_no_number kinds.Range e same = cc

with_range-holds : (s : State) (v : ℕ) (w : Variable) (r : VarRange) → is_number_scalar w ≡ true → LiesIn r (cell_at s (scalar v)) → HoldsCells s v (with_range w r)
with_range-holds s v w r number lies =
    let no_array = not-true (is_array w) (and_first (not (is_array w)) (not (is_truth_kind w.kind)) number) in
    let no_truth = not-true (is_truth_kind w.kind) (and_second (not (is_array w)) (not (is_truth_kind w.kind)) number) in
    record {
      cells = λ i small. subst (λ (i : ℕ). (r.lo ≤ℤ cell_at s (record { variable = v; index = i })) × (cell_at s (record { variable = v; index = i }) ≤ℤ r.hi)) (sym (one_cell w i no_array small)) (lies.low, lies.high);
      truth = λ same. absurd (truth_is_no_number w.kind no_truth same);
    }

-- the variable where a comparison with n holds, as it does for its value
where_holds-holds : (s : State) (v : ℕ) (w : Variable) (op : Operator) (n : ℤ) → HoldsCells s v w → (LiesIn (declared_range w) (cell_at s (scalar v)) → LiesIn (numbers_left op n (declared_range w)) (cell_at s (scalar v))) → HoldsCells s v (where_holds op (Some n) w)
where_holds-holds s v w op n h left = number (is_number_scalar w) refl where
  r : VarRange
  r = numbers_left op n (declared_range w)

  nonempty : (b : Bool) → is_number_scalar w ≡ true → HoldsCells s v (cond b (with_range w r) w)
  nonempty true is = with_range-holds s v w r is (left (record { low = (h.cells 0 (omega arith)).0; high = (h.cells 0 (omega arith)).1 }))
  nonempty false is = h

  number : (b : Bool) → is_number_scalar w ≡ b → HoldsCells s v (cond b (unless_empty w r) w)
  number true is = nonempty (int_le r.lo r.hi) is
  number false is = h

-- ---- what a value of both operands shows

same_one : (r : OrFault ℤ) (y : ℤ) → (r >>= λ x. Ok x) ≡ Ok y → r ≡ Ok y
same_one (Ok x) y e = e
same_one (Err k) y e = cc

-- a result is this value
abbrev Gives : OrFault ℤ → ℤ → Type 0
Gives r x = r ≡ Ok x

both_are : (op : Operator) (b : Bool) (a : ℤ) (r : OrFault ℤ) → refines_both op b ≡ true → (t : Bool) × (a ≡ number_of t) → cond (decided op a) (Ok a) (r >>= operate op a) ≡ Ok (number_of b) → (a ≡ number_of b) × (r ≡ Ok (number_of b))
both_are And true a r both (true, is) e = (is, same_one r (number_of true) (subst (λ (a : ℤ). cond (decided And a) (Ok a) (r >>= operate And a) ≡ Ok (number_of true)) is e))
both_are And true a r both (false, is) e =
    let stays : Gives (Ok (number_of false)) (number_of true) = subst (λ (a : ℤ). cond (decided And a) (Ok a) (r >>= operate And a) ≡ Ok (number_of true)) is e in
    cc
both_are And false a r both is e = cc
both_are Or true a r both is e = cc
both_are Or false a r both (false, is) e = (is, same_one r (number_of false) (subst (λ (a : ℤ). cond (decided Or a) (Ok a) (r >>= operate Or a) ≡ Ok (number_of false)) is e))
both_are Or false a r both (true, is) e =
    let stays : Gives (Ok (number_of true)) (number_of false) = subst (λ (a : ℤ). cond (decided Or a) (Ok a) (r >>= operate Or a) ≡ Ok (number_of false)) is e in
    cc
both_are op b a r both is e = cc

-- what a comparison with a literal, or any other operator, shows of its left operand
compared : (op : Operator) (b : Bool) (a n : ℤ) (r : OrFault ℤ) (range : VarRange) → ((x : ℤ) → r ≡ Ok x → x ≡ n) → cond (decided op a) (Ok a) (r >>= operate op a) ≡ Ok (number_of b) → LiesIn range a → LiesIn (numbers_left (cond b op (opposite_comparison op)) n range) a
compared And true a n r range is e lies = lies
compared And false a n r range is e lies = lies
compared Or true a n r range is e lies = lies
compared Or false a n r range is e lies = lies
compared op b a n r range is e lies =
    let (x, done, at) = bind_ok r (operate op a) (number_of b) e in
    by_test op b n a range lies (subst (λ (x : ℤ). operate op a x ≡ Ok (number_of b)) (is x done) at)

opposite_value : (b : Bool) (x : ℤ) → Gives (Ok (pos 1 -ℤ x)) (number_of b) → x ≡ number_of (not b)
opposite_value true x e = let same : pos 1 -ℤ x ≡ pos 1 = cc in omega (arith, ints, same)
opposite_value false x e = let same : pos 1 -ℤ x ≡ pos 0 = cc in omega (arith, ints, same)

both_truths : (op : Operator) (b : Bool) (A C : Kind → Type 0) → refines_both op b ≡ true → FitOperands (operand_kind op) A C → A kinds.Truth × C kinds.Truth
both_truths And b A C e fit = fit
both_truths Or b A C e fit = fit
both_truths op b A C e fit = cc

module _ (g : EventGraph) (s : State) (clk : ℕ) (truths : (e : Expression) (x : ℤ) → HasKind g.variables e kinds.Truth → value_of g s clk e ≡ Ok x → (t : Bool) × (x ≡ number_of t)) where
  ranges_refined_by-holds : (op : Operator) (left right : Expression) (b : Bool) (ranges : List Variable) → LiesWithin s ranges → value_of g s clk (Binary op left right) ≡ Ok (number_of b) → LiesWithin s (ranges_refined_by op left right b ranges)
  ranges_refined_by-holds op (Scalar v) right b ranges within e =
      within_holds s _ (each-after_set (HoldsCells s) ranges v (where_holds (cond b op (opposite_comparison op)) (literal_number right) (ranged_at ranges v)) (holds_within s ranges within) (by_literal (literal_number right) refl))
    where
      by_literal : (o : Option ℤ) → literal_number right ≡ o → HoldsCells s v (where_holds (cond b op (opposite_comparison op)) o (ranged_at ranges v))
      by_literal None is = holds_within s ranges within v
      by_literal (Some n) is =
          where_holds-holds s v (ranged_at ranges v) (cond b op (opposite_comparison op)) n (holds_within s ranges within v)
          (compared op b (cell_at s (scalar v)) n (value_of g s clk right) (declared_range (ranged_at ranges v)) (λ x done. literal-value g s clk right n x is done) e)
  ranges_refined_by-holds op left right b ranges within e = within

  chosen-holds : (t : Bool) (a c : List Variable) → (t ≡ true → LiesWithin s a) → (t ≡ false → LiesWithin s c) → LiesWithin s (cond t a c)
  chosen-holds true a c i j = i refl
  chosen-holds false a c i j = j refl

  refined-holds : (e : Expression) (b : Bool) (ranges : List Variable) → HasKind g.variables e kinds.Truth → LiesWithin s ranges → value_of g s clk e ≡ Ok (number_of b) → LiesWithin s (refined e b ranges)
  refined-holds (Not a) b ranges is within e =
      let (x, done, at) = bind_ok (value_of g s clk a) _ (number_of b) e in
      refined-holds a (not b) ranges is.1 within (done ∙ ap (λ (x : ℤ). Ok x) (opposite_value b x at))
  refined-holds (Binary op left right) b ranges is within e =
      let (x, at_left, later) = bind_ok (value_of g s clk left) _ (number_of b) e in
      chosen-holds (refines_both op b) (refined right b (refined left b ranges)) (ranges_refined_by op left right b ranges)
      (λ both.
      let kinds_are = both_truths op b (HasKind g.variables left) (HasKind g.variables right) both is.1 in
      let right_too = both_are op b x (value_of g s clk right) both (truths left x kinds_are.0 at_left) later in
      refined-holds right b (refined left b ranges) kinds_are.1 (refined-holds left b ranges kinds_are.0 within (at_left ∙ ap (λ (x : ℤ). Ok x) right_too.0)) right_too.1)
      (λ not_both. ranges_refined_by-holds op left right b ranges within e)
  refined-holds e b ranges is within done = within

  pub refined-guard : GuardHolds g s clk refined
  refined-guard = record { alike = refined-alike g; holds = refined-holds }
