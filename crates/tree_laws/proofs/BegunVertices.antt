-- A state in range meets the ends of its model's atoms; and truth values come where kinds ask for them.
use Rattle.std.proofs.Common.{◌≡◌, ℕ, ◌≤◌, ◌<◌, ◌^◌, nat_lt, ℤ, pos, negsuc, int_le, Bool, true, false, cond, IsTrue, [], Option, Some, None, ◌⊎◌, inl, inr, refl, ap, sym, subst, arith, List, ◌∷◌, zero, suc, ◌-◌, map, replicate, slice_index_or, not, nat_eq, ◌∙◌}
use Rattle.std.proofs.lemmas.Int.{ints}
use Rattle.std.proofs.lemmas.Bool.{ltb-true, lt-ltb}
use Rattle.std.proofs.lemmas.Option.{get_or_from_slice_get}
use Rattle.std.proofs.lemmas.Bool.Decides.{nat_tests}
use Rattle.sig_base.proofs.Tests.{true-int_le}
use Rattle.model_core.proofs.BothTrue.{and_first, and_second}
use Rattle.model_core.specs.declared.model.Kind.{Kind}
use Rattle.model_core.specs.declared.model.Kind.TheVariants as kinds
use Rattle.model_core.specs.EventGraph.{EventGraph, Variable, Expression, Number, Truth, Clock, Scalar, Cell, Negative, Not, Binary, If, Operator, And, Or}
use Rattle.model_core.specs.Run.State.{State, scalar, is_array, no_variable, variable_at, cell_at, cell_count, in_range, initial_state}
use Rattle.model_core.specs.Run.Value.{number_of, value_of}
use Rattle.model_core.specs.Static.HasKind.{HasKind, IsVariable, FitOperands}
use Rattle.model_core.specs.Static.Kinds.{operand_kind}
use Rattle.model_core.specs.Rules.RangesHold.{TruthsAreDeclared}
use Rattle.model_core.specs.Rules.BoundsHold.{TruthIn}
use Rattle.model_core.specs.Rules.BoundsOf.{bounds_of}
use Rattle.run_laws.proofs.InRange.{cells_lie_in_range}
use Rattle.bound_laws.proofs.Soundness.DeclaredRanges.{declared_sound}
use Rattle.tree_laws.specs.LinearSums.{SumAtom, VariableAtom, SumTerms, LinearSum}
use Rattle.tree_laws.specs.SumValues.{atom_value}
use Rattle.tree_laws.specs.Limits.{Interval}
use Rattle.tree_laws.specs.Meaning.{Within, Meets}
use Rattle.tree_laws.specs.Valued.{SoFar}
use Rattle.tree_laws.specs.ValuesAgree.{stored_value, Agrees, AsksTruth, IsTruthValue, TruthsWhereAsked}
use Rattle.tree_laws.specs.BeginOfVertex.{declared_ends, ground_of, cell_of, valuation_of, BeginsWithReads}
use Rattle.tree_laws.proofs.Gives.{holds_cond}
use Rattle.tree_laws.proofs.ConditionTrees.{read_tree-value}
use Rattle.tree_laws.proofs.NotedChecks.{nothing_holds}

module _ (g : EventGraph) (s : State) (inside : IsTrue (in_range g s)) where
  cell-within : (i j : ℕ) → j < cell_count (variable_at g i) → Within (declared_ends g i) (cell_at s (record { variable = i; index = j }))
  cell-within i j below =
      let x = cell_at s (record { variable = i; index = j }) in
      let lies = cells_lie_in_range g s i j inside below in
      record { low = true-int_le (variable_at g i).lo x (and_first (int_le (variable_at g i).lo x) _ lies); high = true-int_le x (variable_at g i).hi (and_second (int_le (variable_at g i).lo x) _ lies) }

  scalar-within : (i : ℕ) → Within (declared_ends g i) (cell_at s (scalar i))
  scalar-within i = cell-within i 0 (omega arith)

-- the initial value of a variable is its first cell as a run begins
initial_cell : (vs : List Variable) (i : ℕ) → slice_index_or (slice_index_or (map (λ (v : Variable). replicate (cell_count v) v.initial) vs) i []) 0 (pos 0) ≡ (slice_index_or vs i no_variable).initial
initial_cell [] i = refl
initial_cell (v ∷ vs) zero =
    let some : cell_count v ≡ suc (cell_count v - 1) = omega arith in
    ap (λ n. slice_index_or (replicate n v.initial) 0 (pos 0)) some
initial_cell (v ∷ vs) (suc i) = initial_cell vs i

pub initial-within : (g : EventGraph) → IsTrue (in_range g (initial_state g)) → (i : ℕ) → Within (declared_ends g i) (variable_at g i).initial
initial-within g begun i = subst (λ x. Within (declared_ends g i) x) (initial_cell g.variables i) (scalar-within g (initial_state g) begun i)

module _ (g : EventGraph) (s : State) (inside : IsTrue (in_range g s)) (begun : IsTrue (in_range g (initial_state g))) where
  any_cell-within : (i : ℕ) (x : ℤ) → Within (declared_ends g i) (cell_of g s i x)
  any_cell-within i (pos j) =
      holds_cond (Within (declared_ends g i)) (nat_lt j (variable_at g i).size) _ _
      (λ e. cell-within g s inside i j (let below = ltb-true j (variable_at g i).size e in omega arith))
      (λ e. initial-within g begun i)
  any_cell-within i (negsuc j) = initial-within g begun i

  module _ (clk : ℕ) (early : clk ≤ 2 ^ 48) (received word : ℕ → ℤ) (of_received of_word : ℕ → Interval) (before : SumAtom → SumAtom → Bool) (terms_before : SumTerms → SumTerms → Bool) (sum_before : LinearSum → LinearSum → Bool)
      (arrive : (i : ℕ) → Within (of_received i) (received i)) (drawn : (i : ℕ) → Within (of_word i) (word i)) where
    pub state-meets : Meets (ground_of g of_received of_word before terms_before sum_before) (valuation_of g s clk received word)
    state-meets = record {
      variable = scalar-within g s inside;
      received = arrive;
      word = drawn;
      clock = record { low = omega (arith, ints); high = omega (arith, ints) };
      cell = any_cell-within;
    }

    pub begin-agrees : (so_far : SoFar) → BeginsWithReads (ground_of g of_received of_word before terms_before sum_before) so_far → Agrees (valuation_of g s clk received word) g s clk so_far
    unfolding stored_value atom_value
    begin-agrees so_far begins =
        let v = valuation_of g s clk received word in
        let base = ground_of g of_received of_word before terms_before sum_before in
        record {
          clock = refl;
          scalars = λ i alone. (read_tree-value v base state-meets [] (nothing_holds v base state-meets) (VariableAtom i)).gives (so_far.scalar i) (begins.scalars i);
          cells = λ i j below. subst (λ ss. stored_value v i ss (pos j) ≡ cell_at s (record { variable = i; index = j })) (sym (begins.stores i)) (there i j (lt-ltb j (variable_at g i).size below));
        } where
          there : (i j : ℕ) → nat_lt j (variable_at g i).size ≡ true → cell_of g s i (pos j) ≡ cell_at s (record { variable = i; index = j })
          there i j e = ap (λ b. cond b (cell_at s (record { variable = i; index = j })) (variable_at g i).initial) e

-- ---- truth values

module _ (g : EventGraph) (s : State) (inside : IsTrue (in_range g s)) where
  module _ (clk : ℕ) (early : clk ≤ 2 ^ 48) (declared : TruthsAreDeclared g.variables) where
    one_or_zero : (b : Bool) (x : ℤ) → x ≡ number_of b → (x ≡ pos 1) ⊎ (x ≡ pos 0)
    one_or_zero true x e = inl e
    one_or_zero false x e = inr e

    truth-value : (e : Expression) → HasKind g.variables e kinds.Truth → IsTruthValue (value_of g s clk e)
    truth-value e is x done =
        let lies : TruthIn (bounds_of g e) x = (declared_sound g s clk e kinds.Truth early inside declared is).inside x done in
        one_or_zero lies.truth x lies.value

    asked_by : (op : Operator) (a b : Expression) → FitOperands (operand_kind op) (HasKind g.variables a) (HasKind g.variables b) → AsksTruth op (IsTruthValue (value_of g s clk a))
    asked_by And a b fit = truth-value a fit.0
    asked_by Or a b fit = truth-value a fit.0
    asked_by op a b fit = tt

    -- the kinds of both operands
    both_kinds : (o : Kind → Type 0) (p : Kind → Type 0) (k : Option Kind) → FitOperands k o p → (i : Kind) × o i × p i
    both_kinds o p (Some k) fit = (k, fit.0, fit.1)
    both_kinds o p None fit = fit

    no_array : (i : ℕ) (k : Kind) → IsVariable g.variables i false k → (variable_at g i).size ≡ 0
    no_array i k is =
        let same : variable_at g i ≡ is.variable = get_or_from_slice_get g.variables i is.variable no_variable is.there in
        no_size (variable_at g i).size (ap is_array same ∙ is.shape) where
          no_size : (n : ℕ) → not (nat_eq n 0) ≡ false → n ≡ 0
          no_size n e = grind (arith, nat_tests)

    pub truths_asked : (e : Expression) (k : Kind) → HasKind g.variables e k → TruthsWhereAsked g s clk e
    unfolding TruthsWhereAsked
    truths_asked (Number x) k is = tt
    truths_asked (Truth b) k is = tt
    truths_asked Clock k is = tt
    truths_asked (Scalar i) k is = no_array i k is
    truths_asked (Cell i e) k is = truths_asked e kinds.Range is.1
    truths_asked (Negative e) k is = truths_asked e kinds.Range is.1
    truths_asked (Not e) k is = truths_asked e kinds.Truth is.1
    truths_asked (Binary op a b) k is =
        let both = both_kinds (HasKind g.variables a) (HasKind g.variables b) (operand_kind op) is.1 in
        (asked_by op a b is.1, (truths_asked a both.0 both.1, truths_asked b both.0 both.2))
    truths_asked (If c a b) k is = (truth-value c is.0, (truths_asked c kinds.Truth is.0, (truths_asked a k is.1, truths_asked b k is.2)))
