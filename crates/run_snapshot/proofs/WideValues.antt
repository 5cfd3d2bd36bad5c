-- In a state in range each number that an expression gives is one of 64 bits.
use Rattle.std.proofs.Common.{◌≡◌, ℕ, suc, ◌-◌, ◌^◌, ◌<◌, ◌≤◌, ℤ, pos, negsuc, neg_ℤ, ◌+ℤ◌, ◌-ℤ◌, ◌*ℤ◌, Bool, true, false, cond, int_le, int_div, int_rem, unsigned_abs, nat_lt, Option, Some, Ok, Err, refl, sym, ap, ◌∙◌, subst, arith, IsTrue}
use Rattle.std.specs.Ordering.{int_eq}
use Rattle.std.proofs.lemmas.Int.{ints}
use Rattle.std.proofs.lemmas.Bool.Decides.{nat_tests}
use Rattle.std.proofs.Math.Nat.{mod-le}
use Rattle.sig_base.specs.declared.fault.FaultKind.{FaultKind}
use Rattle.sig_base.proofs.Tests.{true-int_le}
use Rattle.model_core.specs.declared.model.Kind.{Kind}
use Rattle.model_core.specs.declared.model.Kind.TheVariants as kinds
use Rattle.model_core.specs.EventGraph.{EventGraph, Variable, Expression, Number, Truth, Clock, Scalar, Cell, Negative, Not, Binary, If, Operator, Add, Subtract, Multiply, Divide, Remainder, Least, Greatest}
use Rattle.model_core.specs.Run.State.{State, Place, variable_at, cell_count, within, in_range, cell_at}
use Rattle.model_core.specs.Run.Value.{OrFault, ◌>>=◌, exact, value_of, operate, decided, is_one, unless_zero, indexed}
use Rattle.model_core.specs.Text.Spellable.{SpellableExpression}
use Rattle.model_core.specs.Static.HasKind.{FitOperands, HasKind}
use Rattle.model_core.specs.Static.Kinds.{result_kind, operand_kind}
use Rattle.model_core.proofs.Results.{bind_ok}
use Rattle.model_core.proofs.BothTrue.{and_first, and_second}
use Rattle.run_laws.proofs.InRange.{cells_lie_in_range}
use Rattle.model_core.specs.Saved.SavedRun.{IsWide}

wide_as : {x y : ℤ} → x ≡ y → IsWide x → IsWide y
wide_as e w = subst IsWide e w

-- an expression that has only this value to give
ok-wide : (x y : ℤ) → (let r : OrFault ℤ = Ok x in r ≡ Ok y) → IsWide x → IsWide y
ok-wide x y e w = let same : x ≡ y = cc in wide_as same w

exact-wide : (x y : ℤ) → exact x ≡ Ok y → IsWide y
exact-wide x y e = chosen (within (neg_ℤ (pos (2 ^ 63))) (pos (2 ^ 63 - 1)) x) refl _ e where
  chosen : (b : Bool) → within (neg_ℤ (pos (2 ^ 63))) (pos (2 ^ 63 - 1)) x ≡ b → (k : FaultKind) → (let r : OrFault ℤ = cond b (Ok x) (Err k) in r ≡ Ok y) → IsWide y
  chosen true inside k e = ok-wide x y e (record {
    least = true-int_le _ _ (and_first (int_le (neg_ℤ (pos (2 ^ 63))) x) _ inside);
    greatest = true-int_le _ _ (and_second (int_le (neg_ℤ (pos (2 ^ 63))) x) _ inside);
  })
  chosen false inside k e = cc

rem-wide : (x y : ℤ) → IsWide x → IsWide (int_rem x y)
rem-wide (pos a) y w = record { least = omega (arith, ints, w.least, mod-le a (unsigned_abs y)); greatest = omega (arith, ints, w.greatest, mod-le a (unsigned_abs y)) }
rem-wide (negsuc a) y w = record { least = omega (arith, ints, w.least, mod-le (suc a) (unsigned_abs y)); greatest = omega (arith, ints, w.greatest, mod-le (suc a) (unsigned_abs y)) }

unless-zero : (y : ℤ) (r : OrFault ℤ) (z : ℤ) → unless_zero y r ≡ Ok z → r ≡ Ok z
unless-zero y r z e = chosen (int_eq y (pos 0)) _ e where
  chosen : (b : Bool) (k : FaultKind) → cond b (Err k) r ≡ Ok z → r ≡ Ok z
  chosen true k e = cc
  chosen false k e = e

either-wide : (b : Bool) (x y z : ℤ) → IsWide x → IsWide y → (let r : OrFault ℤ = Ok (cond b x y) in r ≡ Ok z) → IsWide z
either-wide true x y z p q e = ok-wide x z e p
either-wide false x y z p q e = ok-wide y z e q

-- the result is a number
abbrev IsNumeric : Operator → Type 0
IsNumeric Add = Unit {0}
IsNumeric Subtract = Unit {0}
IsNumeric Multiply = Unit {0}
IsNumeric Divide = Unit {0}
IsNumeric Remainder = Unit {0}
IsNumeric Least = Unit {0}
IsNumeric Greatest = Unit {0}
IsNumeric other = ⊥

-- which operators give a number
record Numeric (op : Operator) : Type 0 where
  gives : IsNumeric op
  takes : operand_kind op ≡ Some kinds.Range
  needs_both : (x : ℤ) → decided op x ≡ false

numeric : (op : Operator) → kinds.Range ≡ result_kind op → Numeric op
numeric Add e = record { gives = tt; takes = refl; needs_both = λ x. refl }
numeric Subtract e = record { gives = tt; takes = refl; needs_both = λ x. refl }
numeric Multiply e = record { gives = tt; takes = refl; needs_both = λ x. refl }
numeric Divide e = record { gives = tt; takes = refl; needs_both = λ x. refl }
numeric Remainder e = record { gives = tt; takes = refl; needs_both = λ x. refl }
numeric Least e = record { gives = tt; takes = refl; needs_both = λ x. refl }
numeric Greatest e = record { gives = tt; takes = refl; needs_both = λ x. refl }
numeric other e = cc

-- one of two that are wide
chosen-wide : (b : Bool) (r q : OrFault ℤ) (x : ℤ) → (r ≡ Ok x → IsWide x) → (q ≡ Ok x → IsWide x) → cond b r q ≡ Ok x → IsWide x
chosen-wide true r q x p h e = p e
chosen-wide false r q x p h e = h e

-- bounds of 64 bits
pub record WideRange (v : Variable) : Type 0 where
  pub lo : IsWide v.lo
  pub hi : IsWide v.hi

pub between-wide : (v : Variable) (x : ℤ) → WideRange v → IsTrue (within v.lo v.hi x) → IsWide x
between-wide v x w inside = record {
  least = omega (arith, ints, w.lo.least, true-int_le v.lo x (and_first (int_le v.lo x) _ inside));
  greatest = omega (arith, ints, w.hi.greatest, true-int_le x v.hi (and_second (int_le v.lo x) _ inside));
}

indexed-place : (g : EventGraph) (v : ℕ) (i : ℤ) (p : Place) → indexed g v i ≡ Ok p → (p.variable ≡ v) × (p.index < cell_count (variable_at g v))
indexed-place g v (negsuc i) p e = cc
indexed-place g v (pos i) p e = chosen (nat_lt i (variable_at g v).size) refl _ e where
  chosen : (b : Bool) → nat_lt i (variable_at g v).size ≡ b → (k : FaultKind) → (let r : OrFault Place = cond b (Ok (record { variable = v; index = i })) (Err k) in r ≡ Ok p) → (p.variable ≡ v) × (p.index < cell_count (variable_at g v))
  chosen true below k e =
      let same : record { variable = v; index = i } ≡ p = cc in
      subst (λ (p : Place). (p.variable ≡ v) × (p.index < cell_count (variable_at g v))) same (refl, grind (arith, nat_tests, below))
  chosen false below k e = cc

module _ (g : EventGraph) (s : State) (clk : ℕ) (early : clk ≤ 2 ^ 48) (inside : IsTrue (in_range g s)) (ranges : (v : ℕ) → WideRange (variable_at g v)) where
  cell-wide : (v i : ℕ) → i < cell_count (variable_at g v) → IsWide (cell_at s (record { variable = v; index = i }))
  cell-wide v i below = between-wide (variable_at g v) _ (ranges v) (cells_lie_in_range g s v i inside below)

  -- the value of an operator on two operands, whose result is a number
  operated-wide : (op : Operator) (x y z : ℤ) → IsNumeric op → IsWide x → IsWide y → operate op x y ≡ Ok z → IsWide z
  operated-wide Add x y z numeric p q e = exact-wide (x +ℤ y) z e
  operated-wide Subtract x y z numeric p q e = exact-wide (x -ℤ y) z e
  operated-wide Multiply x y z numeric p q e = exact-wide (x *ℤ y) z e
  operated-wide Divide x y z numeric p q e = exact-wide (int_div x y) z (unless-zero y _ z e)
  operated-wide Remainder x y z numeric p q e = ok-wide (int_rem x y) z (unless-zero y _ z e) (rem-wide x y p)
  operated-wide Least x y z numeric p q e = either-wide (int_le x y) x y z p q e
  operated-wide Greatest x y z numeric p q e = either-wide (int_le x y) y x z q p e
  operated-wide other x y z numeric p q e = absurd numeric

  pub value-wide : (n : ℕ) (e : Expression) (x : ℤ) → HasKind g.variables e kinds.Range → SpellableExpression n e → value_of g s clk e ≡ Ok x → IsWide x
  value-wide n (Number (pos k)) x is fits e = ok-wide (pos k) x e (record { least = omega (arith, ints); greatest = omega (arith, ints, fits) })
  value-wide n (Number (negsuc k)) x is fits e = absurd fits
  value-wide n (Truth b) x is fits e = cc
  value-wide n Clock x is fits e = ok-wide (pos clk) x e (record { least = omega (arith, ints); greatest = omega (arith, ints, early) })
  value-wide n (Scalar v) x is fits e = ok-wide _ x e (cell-wide v 0 (omega arith))
  value-wide n (Cell v i) x is fits e =
      let (p, at_place, given) = bind_ok (value_of g s clk i >>= indexed g v) (λ p. Ok (cell_at s p)) x e in
      let (k, at_index, found) = bind_ok (value_of g s clk i) (indexed g v) p at_place in
      let (is_v, below) = indexed-place g v k p found in
      ok-wide (cell_at s p) x given (cell-wide p.variable p.index (subst (λ w. p.index < cell_count (variable_at g w)) (sym is_v) below))
  value-wide n (Negative a) x is fits e = let (y, left, later) = bind_ok (value_of g s clk a) (λ a. exact (neg_ℤ a)) x e in exact-wide (neg_ℤ y) x later
  value-wide n (Not a) x is fits e = let no : kinds.Range ≡ kinds.Truth = is.0 in cc
  value-wide n (Binary op a b) z is fits e =
      let op_is = numeric op is.0 in
      let (a_is, b_is) = subst (λ (k : Option Kind). FitOperands k (HasKind g.variables a) (HasKind g.variables b)) op_is.takes is.1 in
      let (x, left_is, later) = bind_ok (value_of g s clk a) (λ x. cond (decided op x) (Ok x) (value_of g s clk b >>= operate op x)) z e in
      let goes_on : (value_of g s clk b >>= operate op x) ≡ Ok z = sym (ap (λ (d : Bool). cond d (Ok x) (value_of g s clk b >>= operate op x)) (op_is.needs_both x)) ∙ later in
      let (y, right_is, operated) = bind_ok (value_of g s clk b) (operate op x) z goes_on in
      operated-wide op x y z op_is.gives (value-wide n a x a_is fits.0 left_is) (value-wide n b y b_is fits.1 right_is) operated
  value-wide n (If c a b) x is fits e =
      let (t, test_is, later) = bind_ok (value_of g s clk c) (λ t. cond (is_one t) (value_of g s clk a) (value_of g s clk b)) x e in
      chosen-wide (is_one t) (value_of g s clk a) (value_of g s clk b) x (value-wide n a x is.1 fits.1) (value-wide n b x is.2 fits.2) later
