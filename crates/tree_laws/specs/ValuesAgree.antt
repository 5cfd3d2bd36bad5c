-- When trees of variables have the values of a state.
use Rattle.std.specs.Prelude.{◌≡◌, ℕ, ◌<◌, ℤ, pos, cond, List, [], ◌∷◌, Ok}
use mathlib.Core.Logic.{◌⊎◌}
use Rattle.std.specs.Ordering.{int_eq}
use Rattle.model_core.specs.EventGraph.{EventGraph, Expression, Number, Truth, Clock, Scalar, Cell, Negative, Not, Binary, If, Operator, And, Or}
use Rattle.model_core.specs.Run.State.{State, scalar, variable_at, cell_at}
use Rattle.model_core.specs.Run.Value.{OrFault, value_of}
use Rattle.tree_laws.specs.SumValues.{Valuation}
use Rattle.tree_laws.specs.Trees.{tree_value}
use Rattle.tree_laws.specs.Valued.{Stored, SoFar}

-- the cell of an array at an index after stores, the last first
unfoldable pub stored_value : Valuation → ℕ → List Stored → ℤ → ℤ
stored_value v i [] x = v.cell i x
stored_value v i (s ∷ before) x = cond (int_eq x (tree_value v s.index)) (tree_value v s.value) (stored_value v i before x)

-- the clock, the trees of scalars and the cells after stores have the values of the state
pub record Agrees (v : Valuation) (g : EventGraph) (s : State) (clk : ℕ) (so_far : SoFar) : Type 0 where
  pub clock : v.clock ≡ pos clk
  pub scalars : (i : ℕ) → (variable_at g i).size ≡ 0 → tree_value v (so_far.scalar i) ≡ cell_at s (scalar i)
  pub cells : (i j : ℕ) → j < (variable_at g i).size → stored_value v i (so_far.stores i) (pos j) ≡ cell_at s (record { variable = i; index = j })

abbrev pub IsTruthValue : OrFault ℤ → Type 0
IsTruthValue r = (x : ℤ) → r ≡ Ok x → (x ≡ pos 1) ⊎ (x ≡ pos 0)

-- an operator whose left operand is a truth value
abbrev pub AsksTruth : Operator → Type 0 → Type 0
AsksTruth And P = P
AsksTruth Or P = P
AsksTruth op P = Unit {0}

-- where a truth value is asked there is one, and a variable without an index is no array
unfoldable pub TruthsWhereAsked : EventGraph → State → ℕ → Expression → Type 0
TruthsWhereAsked g s clk (Number x) = Unit {0}
TruthsWhereAsked g s clk (Truth b) = Unit {0}
TruthsWhereAsked g s clk Clock = Unit {0}
TruthsWhereAsked g s clk (Scalar i) = (variable_at g i).size ≡ 0
TruthsWhereAsked g s clk (Cell i e) = TruthsWhereAsked g s clk e
TruthsWhereAsked g s clk (Negative e) = TruthsWhereAsked g s clk e
TruthsWhereAsked g s clk (Not e) = TruthsWhereAsked g s clk e
TruthsWhereAsked g s clk (Binary op a b) = AsksTruth op (IsTruthValue (value_of g s clk a)) × (TruthsWhereAsked g s clk a × TruthsWhereAsked g s clk b)
TruthsWhereAsked g s clk (If c a b) = IsTruthValue (value_of g s clk c) × (TruthsWhereAsked g s clk c × (TruthsWhereAsked g s clk a × TruthsWhereAsked g s clk b))
