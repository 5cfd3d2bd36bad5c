-- In a state in range, expressions of truth values give 0 or 1 alone.
use Rattle.std.proofs.Common.{◌≡◌, ℕ, ◌<◌, ℤ, pos, negsuc, ◌-ℤ◌, int_le, int_lt, nat_lt, not, Bool, true, false, cond, ◌&&◌, Ok, refl, ap, ◌∙◌, subst, arith, IsTrue, to_z, of_z, w64}
use Rattle.std.specs.Ordering.{int_eq}
use Rattle.std.proofs.lemmas.Int.{ints, to_z-of_z}
use Rattle.std.proofs.lemmas.Bool.Decides.{nat_tests}
use Rattle.model_core.specs.EventGraph.{EventGraph, Variable, Expression, Number, Truth, Clock, Scalar, Cell, Negative, Not, Binary, If, Operator, Add, Subtract, Multiply, Divide, Remainder, Least, Greatest, Equal, NotEqual, Below, AtMost, Above, AtLeast, And, Or}
use Rattle.model_core.specs.Run.State.{State, Place, variable_at, cell_count, in_range, cell_at}
use Rattle.model_core.specs.Run.Value.{OrFault, ◌>>=◌, number_of, is_one, decided, operate, indexed, value_of}
use Rattle.model_core.proofs.Results.{bind_ok}
use Rattle.run_laws.proofs.InRange.{cells_lie_in_range}
use Rattle.sig_expr.specs.Possible.{IsTruth, HoldsTruth, OperatorGivesTruth, GivesTruth}

number-truth : (b : Bool) → IsTruth (number_of b)
number-truth true = record { low = omega (arith, ints); high = omega (arith, ints) }
number-truth false = record { low = omega (arith, ints); high = omega (arith, ints) }

same-ok : {A : Type 0} (x y : A) → (let r : OrFault A = Ok x in r ≡ Ok y) → x ≡ y
same-ok x y e = cc

from-number : (b : Bool) (x : ℤ) → (let r : OrFault ℤ = Ok (number_of b) in r ≡ Ok x) → IsTruth x
from-number b x e = subst IsTruth (same-ok (number_of b) x e) (number-truth b)

within-truth : (v : Variable) (x : ℤ) → HoldsTruth v → (int_le v.lo x && int_le x v.hi) ≡ true → IsTruth x
within-truth v x h e = record { low = grind (arith, ints, h.low, h.high, e); high = grind (arith, ints, h.low, h.high, e) }

held : (g : EventGraph) (s : State) (v i : ℕ) (x : ℤ) → IsTrue (in_range g s) → HoldsTruth (variable_at g v) → i < cell_count (variable_at g v) → (let r : OrFault ℤ = Ok (cell_at s (record { variable = v; index = i })) in r ≡ Ok x) → IsTruth x
held g s v i x inside h below e =
    subst IsTruth (same-ok (cell_at s (record { variable = v; index = i })) x e)
    (within-truth (variable_at g v) (cell_at s (record { variable = v; index = i })) h (cells_lie_in_range g s v i inside below))

-- a cell's index is below the size
cell-held : (g : EventGraph) (s : State) (v i : ℕ) (b : Bool) (k : OrFault Place) (x : ℤ) → IsTrue (in_range g s) → HoldsTruth (variable_at g v) → nat_lt i (variable_at g v).size ≡ b
    → (cond b (Ok (record { variable = v; index = i })) (indexed g v (negsuc i)) >>= λ p. Ok (cell_at s p)) ≡ Ok x → IsTruth x
cell-held g s v i true k x inside h t e = held g s v i x inside h (grind (arith, nat_tests, t)) e
cell-held g s v i false k x inside h t e = cc

indexed-held : (g : EventGraph) (s : State) (v : ℕ) (i x : ℤ) → IsTrue (in_range g s) → HoldsTruth (variable_at g v) → (indexed g v i >>= λ p. Ok (cell_at s p)) ≡ Ok x → IsTruth x
indexed-held g s v (pos i) x inside h e = cell-held g s v i _ (indexed g v (pos i)) x inside h refl e
indexed-held g s v (negsuc i) x inside h e = cc

decided-truth : (b : Bool) (a x : ℤ) (r : OrFault ℤ) → IsTruth a → ((y : ℤ) → r ≡ Ok y → IsTruth y) → cond b (Ok a) (r >>= λ y. Ok y) ≡ Ok x → IsTruth x
decided-truth true a x r t h e = subst IsTruth (same-ok a x e) t
decided-truth false a x r t h e =
    let (y, at_right, at_end) = bind_ok r (λ y. Ok y) x e in subst IsTruth (same-ok y x at_end) (h y at_right)

compared-truth : (test : ℤ → Bool) (r : OrFault ℤ) (x : ℤ) → (r >>= λ b. Ok (number_of (test b))) ≡ Ok x → IsTruth x
compared-truth test r x e =
    let (y, at_right, at_end) = bind_ok r (λ b. Ok (number_of (test b))) x e in from-number (test y) x at_end

both-truth : (b : Bool) (p q : OrFault ℤ) (x : ℤ) → (p ≡ Ok x → IsTruth x) → (q ≡ Ok x → IsTruth x) → cond b p q ≡ Ok x → IsTruth x
both-truth true p q x f h e = f e
both-truth false p q x f h e = h e

other-truth : (a x : ℤ) → IsTruth a → (let r : OrFault ℤ = Ok (pos 1 -ℤ a) in r ≡ Ok x) → IsTruth x
other-truth a x t e =
    let same = same-ok (pos 1 -ℤ a) x e in
    let u : IsTruth (pos 1 -ℤ a) = record { low = omega (arith, ints, t.low, t.high); high = omega (arith, ints, t.low, t.high) } in
    subst IsTruth same u

operator-truth : (op : Operator) (y x : ℤ) (A B : Type 0) (r : OrFault ℤ) → OperatorGivesTruth op A B → (A → IsTruth y) → (B → (z : ℤ) → r ≡ Ok z → IsTruth z) → cond (decided op y) (Ok y) (r >>= operate op y) ≡ Ok x → IsTruth x
operator-truth Add y x A B r t left right e = absurd t
operator-truth Subtract y x A B r t left right e = absurd t
operator-truth Multiply y x A B r t left right e = absurd t
operator-truth Divide y x A B r t left right e = absurd t
operator-truth Remainder y x A B r t left right e = absurd t
operator-truth Least y x A B r t left right e = absurd t
operator-truth Greatest y x A B r t left right e = absurd t
operator-truth And y x A B r t left right e = decided-truth (int_eq y (pos 0)) y x r (left t.0) (right t.1) e
operator-truth Or y x A B r t left right e = decided-truth (int_eq y (pos 1)) y x r (left t.0) (right t.1) e
operator-truth Equal y x A B r t left right e = compared-truth (λ b. int_eq y b) r x e
operator-truth NotEqual y x A B r t left right e = compared-truth (λ b. not (int_eq y b)) r x e
operator-truth Below y x A B r t left right e = compared-truth (λ b. int_lt y b) r x e
operator-truth AtMost y x A B r t left right e = compared-truth (λ b. int_le y b) r x e
operator-truth Above y x A B r t left right e = compared-truth (λ b. int_lt b y) r x e
operator-truth AtLeast y x A B r t left right e = compared-truth (λ b. int_le b y) r x e

-- a value of what gives truth values is 0 or 1
pub truth : (g : EventGraph) (s : State) (clk : ℕ) (e : Expression) (x : ℤ) → IsTrue (in_range g s) → GivesTruth g e → value_of g s clk e ≡ Ok x → IsTruth x
truth g s clk (Number n) x inside t e = absurd t
truth g s clk (Truth b) x inside t e = from-number b x e
truth g s clk Clock x inside t e = absurd t
truth g s clk (Scalar v) x inside t e = held g s v 0 x inside t (omega arith) e
truth g s clk (Cell v i) x inside t e =
    let (p, at_place, at_end) = bind_ok (value_of g s clk i >>= indexed g v) (λ p. Ok (cell_at s p)) x e in
    let (k, at_index, placed) = bind_ok (value_of g s clk i) (indexed g v) p at_place in
    indexed-held g s v k x inside t (ap (λ r. r >>= λ p. Ok (cell_at s p)) placed ∙ at_end)
truth g s clk (Negative a) x inside t e = absurd t
truth g s clk (Not a) x inside t e =
    let (y, at_operand, at_end) = bind_ok (value_of g s clk a) (λ a. Ok (pos 1 -ℤ a)) x e in
    other-truth y x (truth g s clk a y inside t at_operand) at_end
truth g s clk (Binary op a b) x inside t e =
    let (y, at_left, at_rest) = bind_ok (value_of g s clk a) (λ y. cond (decided op y) (Ok y) (value_of g s clk b >>= operate op y)) x e in
    operator-truth op y x (GivesTruth g a) (GivesTruth g b) (value_of g s clk b) t (λ u. truth g s clk a y inside u at_left) (λ u z at_right. truth g s clk b z inside u at_right) at_rest
truth g s clk (If c a b) x inside t e =
    let (y, at_test, at_rest) = bind_ok (value_of g s clk c) (λ y. cond (is_one y) (value_of g s clk a) (value_of g s clk b)) x e in
    both-truth (is_one y) (value_of g s clk a) (value_of g s clk b) x (truth g s clk a x inside t.0) (truth g s clk b x inside t.1) at_rest

-- a value that is passed as a signed number is a truth value too
pub passed_truth : (x : ℤ) → IsTruth x → IsTruth (to_z w64 (of_z w64 x))
passed_truth x t = rw (to_z-of_z w64 x (omega (arith, ints, t.low, t.high))) t
