-- The ends of a model's atoms, and the values with which a vertex begins.
use Rattle.std.specs.Prelude.{◌≡◌, ℕ, nat_lt, ℤ, pos, negsuc, Bool, cond, [], Some}
use Rattle.model_core.specs.EventGraph.{EventGraph}
use Rattle.model_core.specs.Run.State.{State, scalar, variable_at, cell_at}
use Rattle.tree_laws.specs.LinearSums.{SumAtom, VariableAtom, SumTerms, LinearSum}
use Rattle.tree_laws.specs.SumValues.{Valuation}
use Rattle.tree_laws.specs.Limits.{Interval}
use Rattle.tree_laws.specs.SumEnds.{Ground}
use Rattle.tree_laws.specs.TreeConditions.{read_tree}
use Rattle.tree_laws.specs.Valued.{SoFar}

abbrev pub declared_ends : EventGraph → ℕ → Interval
declared_ends g i = record { lo = (variable_at g i).lo; hi = (variable_at g i).hi }

-- the ends of received values and words, and the orders, are given
abbrev pub ground_of : EventGraph → (ℕ → Interval) → (ℕ → Interval) → (SumAtom → SumAtom → Bool) → (SumTerms → SumTerms → Bool) → (LinearSum → LinearSum → Bool) → Ground
ground_of g received word before terms_before sum_before = record {
  before = before;
  terms_before = terms_before;
  sum_before = sum_before;
  variable = declared_ends g;
  cell = declared_ends g;
  received = received;
  word = word;
}

-- a cell of a state; outside its array it is the array's initial value, which two arrays that count as one have in common
abbrev pub cell_of : EventGraph → State → ℕ → ℤ → ℤ
cell_of g s i (pos j) = cond (nat_lt j (variable_at g i).size) (cell_at s (record { variable = i; index = j })) (variable_at g i).initial
cell_of g s i (negsuc j) = (variable_at g i).initial

abbrev pub valuation_of : EventGraph → State → ℕ → (ℕ → ℤ) → (ℕ → ℤ) → Valuation
valuation_of g s clk received word = record {
  variable = λ i. cell_at s (scalar i);
  received = received;
  word = word;
  clock = pos clk;
  cell = cell_of g s;
}

-- each scalar has its read, and nothing is stored yet
pub record BeginsWithReads (base : Ground) (so_far : SoFar) : Type 0 where
  pub scalars : (i : ℕ) → read_tree base [] (VariableAtom i) ≡ Some (so_far.scalar i)
  pub stores : (i : ℕ) → so_far.stores i ≡ []
