-- A model with other ranges declared: kinds, places and values stay.
use Rattle.std.proofs.Common.{◌≡◌, ℕ, zero, suc, ℤ, pos, negsuc, neg_ℤ, ◌-ℤ◌, nat_lt, Bool, true, false, cond, List, [], ◌∷◌, length, map, replicate, slice_index_or, Option, Some, None, Ok, Err, refl, sym, ◌∙◌, ap, ap₂, subst, arith}
use Rattle.sig_base.specs.declared.fault.FaultKind.TheVariants as faults
use Rattle.model_core.specs.declared.model.Kind.{Kind}
use Rattle.model_core.specs.declared.model.Kind.TheVariants as kinds
use Rattle.model_core.specs.EventGraph.{EventGraph, Variable, Expression, Number, Truth, Clock, Scalar, Cell, Negative, Not, Binary, If}
use Rattle.model_core.specs.Run.State.{State, Place, no_variable, variable_at, cell_count, cell_at, initial_state, is_array}
use Rattle.model_core.specs.Run.Value.{OrFault, ◌>>=◌, is_one, exact, decided, operate, indexed, value_of, place_at}
use Rattle.model_core.specs.Static.HasKind.{IsVariable, FitOperands, HasKind}
use Rattle.model_core.specs.Static.Kinds.{operand_kind}
use Rattle.model_core.specs.declared.var_range.VarRange.{VarRange}
use Rattle.model_core.specs.Ranges.OtherRanges.{with_range, with_ranges, model_with_ranges, range_at}

-- ---- the variables

-- all but the range of a variable
pub record SameButRange (v w : Variable) : Type 0 where
  pub name : w.name ≡ v.name
  pub size : w.size ≡ v.size
  pub kind : w.kind ≡ v.kind
  pub clip : w.clip ≡ v.clip
  pub initial : w.initial ≡ v.initial

alike : (v : Variable) → SameButRange v v
alike v = record { name = refl; size = refl; kind = refl; clip = refl; initial = refl }

alike_ranged : (v : Variable) (r : VarRange) → SameButRange v (with_range v r)
alike_ranged v r = record { name = refl; size = refl; kind = refl; clip = refl; initial = refl }

pub same_but_range : (vs : List Variable) (rs : List VarRange) (k : ℕ) → SameButRange (slice_index_or vs k no_variable) (slice_index_or (with_ranges vs rs) k no_variable)
same_but_range [] rs k = alike no_variable
same_but_range (v ∷ vs) [] k = alike (slice_index_or (v ∷ vs) k no_variable)
same_but_range (v ∷ vs) (r ∷ rs) zero = alike_ranged v r
same_but_range (v ∷ vs) (r ∷ rs) (suc k) = same_but_range vs rs k

-- where there are as many ranges, each variable has the one at its place
pub range_given : (vs : List Variable) (rs : List VarRange) → length rs ≡ length vs → (k : ℕ) → slice_index_or (with_ranges vs rs) k no_variable ≡ with_range (slice_index_or vs k no_variable) (range_at rs k)
range_given [] [] e k = refl
range_given [] (r ∷ rs) e k = absurd (omega arith)
range_given (v ∷ vs) [] e k = absurd (omega arith)
range_given (v ∷ vs) (r ∷ rs) e zero = refl
range_given (v ∷ vs) (r ∷ rs) e (suc k) = range_given vs rs (omega arith) k

pub as_many_variables : (vs : List Variable) (rs : List VarRange) → length (with_ranges vs rs) ≡ length vs
as_many_variables [] rs = refl
as_many_variables (v ∷ vs) [] = refl
as_many_variables (v ∷ vs) (r ∷ rs) = ap suc (as_many_variables vs rs)

pub begins_same : (vs : List Variable) (rs : List VarRange) → map (λ (v : Variable). replicate (cell_count v) v.initial) vs ≡ map (λ (v : Variable). replicate (cell_count v) v.initial) (with_ranges vs rs)
begins_same [] rs = refl
begins_same (v ∷ vs) [] = refl
begins_same (v ∷ vs) (r ∷ rs) = ap (λ (s : State). replicate (cell_count v) v.initial ∷ s) (begins_same vs rs)

-- ---- kinds

pub is_variable : (vs : List Variable) (rs : List VarRange) (v : ℕ) (array : Bool) (k : Kind) → IsVariable vs v array k → IsVariable (with_ranges vs rs) v array k
is_variable [] rs v array k is = is
is_variable (w ∷ vs) [] v array k is = is
is_variable (w ∷ vs) (r ∷ rs) zero array k is =
    let same : w ≡ is.variable = (let e = is.there in cc) in
    record { variable = with_range w r; there = refl; shape = subst (λ (x : Variable). is_array x ≡ array) (sym same) is.shape; of_kind = ap (λ (w : Variable). w.kind) same ∙ is.of_kind }
is_variable (w ∷ vs) (r ∷ rs) (suc v) array k is =
    let later = is_variable vs rs v array k (record { variable = is.variable; there = is.there; shape = is.shape; of_kind = is.of_kind }) in
    record { variable = later.variable; there = later.there; shape = later.shape; of_kind = later.of_kind }

operands_fit : (o : Option Kind) (A C B D : Kind → Type 0) → ((k : Kind) → A k → B k) → ((k : Kind) → C k → D k) → FitOperands o A C → FitOperands o B D
operands_fit (Some k) A C B D f h (a, c) = (f k a, h k c)
operands_fit None A C B D f h (k, a, c) = (k, f k a, h k c)

module _ (vs : List Variable) (rs : List VarRange) where
  pub has_kind : (e : Expression) (k : Kind) → HasKind vs e k → HasKind (with_ranges vs rs) e k
  has_kind (Number n) k is = is
  has_kind (Truth b) k is = is
  has_kind Clock k is = is
  has_kind (Scalar v) k is = is_variable vs rs v false k is
  has_kind (Cell v i) k is = (is_variable vs rs v true k is.0, has_kind i kinds.Range is.1)
  has_kind (Negative a) k is = (is.0, has_kind a kinds.Range is.1)
  has_kind (Not a) k is = (is.0, has_kind a kinds.Truth is.1)
  has_kind (Binary op a b) k is = (is.0, operands_fit (operand_kind op) (HasKind vs a) (HasKind vs b) (HasKind (with_ranges vs rs) a) (HasKind (with_ranges vs rs) b) (has_kind a) (has_kind b) is.1)
  has_kind (If c a b) k is = (has_kind c kinds.Truth is.0, has_kind a k is.1, has_kind b k is.2)

-- ---- values

module _ (g : EventGraph) (ranges : List VarRange) where
  abbrev h : EventGraph
  h = model_with_ranges g ranges

  same_size : (v : ℕ) → (variable_at g v).size ≡ (variable_at h v).size
  same_size v = sym (same_but_range g.variables ranges v).size

  same_indexed : (v : ℕ) (x : ℤ) → indexed g v x ≡ indexed h v x
  same_indexed v (pos i) = ap (λ (n : ℕ). cond (nat_lt i n) (Ok (record { variable = v; index = i })) (Err faults.IndexOutside)) (same_size v)
  same_indexed v (negsuc i) = refl

  pub same_value : (s : State) (clk : ℕ) (e : Expression) → value_of g s clk e ≡ value_of h s clk e
  same_value s clk (Number n) = refl
  same_value s clk (Truth b) = refl
  same_value s clk Clock = refl
  same_value s clk (Scalar v) = refl
  same_value s clk (Cell v e) =
      ap₂ (λ (r : OrFault ℤ) (at : ℤ → OrFault Place). r >>= at >>= λ p. Ok (cell_at s p)) (same_value s clk e) (λ i x. same_indexed v x i)
  same_value s clk (Negative a) = ap (λ (r : OrFault ℤ). r >>= λ a. exact (neg_ℤ a)) (same_value s clk a)
  same_value s clk (Not a) = ap (λ (r : OrFault ℤ). r >>= λ a. Ok (pos 1 -ℤ a)) (same_value s clk a)
  same_value s clk (Binary op a b) =
      ap₂ (λ (r q : OrFault ℤ). r >>= λ a. cond (decided op a) (Ok a) (q >>= operate op a)) (same_value s clk a) (same_value s clk b)
  same_value s clk (If c a b) =
      ap₂ (λ (t : OrFault ℤ) (rs : OrFault ℤ × OrFault ℤ). t >>= λ c. cond (is_one c) rs.0 rs.1) (same_value s clk c) (ap₂ (λ (r q : OrFault ℤ). (r, q)) (same_value s clk a) (same_value s clk b))

  pub same_place : (s : State) (clk v : ℕ) (i : Option Expression) → place_at g s clk v i ≡ place_at h s clk v i
  same_place s clk v None = refl
  same_place s clk v (Some e) = ap₂ (λ (r : OrFault ℤ) (at : ℤ → OrFault Place). r >>= at) (same_value s clk e) (λ i x. same_indexed v x i)

  pub same_start : initial_state g ≡ initial_state h
  same_start = begins_same g.variables ranges
