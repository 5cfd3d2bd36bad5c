-- Ends and orders of a small model: X and Y from 0 to 9, LANE from 0 to 12, B a truth value, A an array of 0 to 9.
use Rattle.std.specs.Prelude.{ℕ, zero, suc, ◌+◌, nat_lt, ℤ, pos, [], ◌∷◌, Option, Some}
use Rattle.model_core.specs.Rules.BoundsTable.{lowest, highest}
use Rattle.tree_laws.specs.LinearSums.{LinearSum, only_atom, Mul, atom_sum, Div, SumAtom, VariableAtom, ReceivedAtom, WordAtom, ClockAtom, CellAtom, OperationAtom, SumTerms, NoTerms, Term}
use Rattle.tree_laws.specs.Limits.{◌>>=◌, Interval}
use Rattle.tree_laws.specs.SumEnds.{Ground, Known}
use Rattle.tree_laws.specs.Trees.{CaseTree, Leaf}
use Rattle.tree_laws.specs.Valued.{Noted, SoFar}
use Rattle.model_core.specs.EventGraph.{EventGraph}
use Rattle.tree_laws.specs.TreesJoined.{tree_sum, tree_difference, tree_operation, choose}
use Rattle.tree_laws.specs.TreeConditions.{number_tree, at_most_tree, less_tree, equal_tree, opposite_tree, read_tree}

abbrev pub atom_rank : SumAtom → ℕ
atom_rank (VariableAtom i) = i
atom_rank (ReceivedAtom i) = 100 + i
atom_rank (WordAtom i) = 200 + i
atom_rank ClockAtom = 300
atom_rank (CellAtom i ts c) = 400 + i
atom_rank (OperationAtom op ts c us d) = 500

abbrev pub first_rank : SumTerms → ℕ
first_rank NoTerms = 0
first_rank (Term c a ts) = suc (atom_rank a)

abbrev pub from_to : ℤ → ℤ → Interval
from_to lo hi = record { lo = lo; hi = hi }

abbrev pub variable_range : ℕ → Interval
variable_range zero = from_to (pos 0) (pos 9)
variable_range (suc zero) = from_to (pos 0) (pos 9)
variable_range (suc (suc zero)) = from_to (pos 0) (pos 12)
variable_range (suc (suc (suc i))) = from_to (pos 0) (pos 1)

abbrev pub small_ground : Ground
small_ground = record {
  before = λ a b. nat_lt (atom_rank a) (atom_rank b);
  terms_before = λ p q. nat_lt (first_rank p) (first_rank q);
  sum_before = λ s t. nat_lt (first_rank s.terms) (first_rank t.terms);
  variable = variable_range;
  cell = λ i. from_to (pos 0) (pos 9);
  received = λ i. from_to (pos 0) (pos 9);
  word = λ i. from_to (pos 0) (pos 9);
}

abbrev pub nothing_known : Known
nothing_known = []

abbrev pub variable_tree : ℕ → Option CaseTree
variable_tree i = read_tree small_ground nothing_known (VariableAtom i)

abbrev pub sum_of : Option CaseTree → Option CaseTree → Option CaseTree
sum_of a b = do
  s ← a
  t ← b
  tree_sum small_ground nothing_known s t

abbrev pub difference_of : Option CaseTree → Option CaseTree → Option CaseTree
difference_of a b = do
  s ← a
  t ← b
  tree_difference small_ground nothing_known s t

abbrev pub over : Option CaseTree → Option CaseTree → Option CaseTree
over a b = do
  s ← a
  t ← b
  tree_operation small_ground Div nothing_known s t

abbrev pub is_less : Option CaseTree → Option CaseTree → Option CaseTree
is_less a b = do
  s ← a
  t ← b
  less_tree small_ground nothing_known s t

abbrev pub is_equal : Option CaseTree → Option CaseTree → Option CaseTree
is_equal a b = do
  s ← a
  t ← b
  equal_tree small_ground nothing_known s t

-- a <= b, of the difference
abbrev pub is_no_greater : Option CaseTree → Option CaseTree → Option CaseTree
is_no_greater a b = do
  d ← difference_of a b
  at_most_tree small_ground nothing_known d (pos 0)

abbrev pub turned : Option CaseTree → Option CaseTree
turned c = do
  t ← c
  opposite_tree small_ground nothing_known t

abbrev pub pick : Option CaseTree → Option CaseTree → Option CaseTree → Option CaseTree
pick c a b = do
  q ← c
  s ← a
  t ← b
  choose small_ground nothing_known q s t

abbrev pub least_of_two : Option CaseTree → Option CaseTree → Option CaseTree
least_of_two a b = pick (is_no_greater a b) a b

abbrev pub greatest_of_two : Option CaseTree → Option CaseTree → Option CaseTree
greatest_of_two a b = pick (is_no_greater a b) b a

abbrev pub literal : ℕ → Option CaseTree
literal n = Some (number_tree (pos n))

abbrev pub X : Option CaseTree
X = variable_tree 0

abbrev pub Y : Option CaseTree
Y = variable_tree 1

abbrev pub LANE : Option CaseTree
LANE = variable_tree 2

abbrev pub B : Option CaseTree
B = variable_tree 3

abbrev pub C : Option CaseTree
C = variable_tree 4

-- an expression's view of X: no variable of the model is asked for
abbrev pub small_model : EventGraph
small_model = record { name = []; variables = []; tables = []; watch = []; vertices = [] }

abbrev pub small_values : SoFar
small_values = record { scalar = λ i. Leaf (atom_sum (VariableAtom i)); stores = λ i. [] }

abbrev pub nothing_noted : Noted
nothing_noted = record { known = []; checks = [] }

-- ---- limits

-- so many variables, each once
abbrev pub many_terms : ℕ → SumTerms
many_terms zero = NoTerms
many_terms (suc n) = Term (pos 1) (VariableAtom n) (many_terms n)

-- X that often
abbrev pub multiple_of_X : ℤ → LinearSum
multiple_of_X c = record { terms = Term c (VariableAtom 0) NoTerms; constant = pos 0 }

-- variables with as many values as 64 bits have
abbrev pub wide_ground : Ground
wide_ground = record small_ground { variable = λ i. from_to lowest highest }

abbrev pub square : SumAtom
square = OperationAtom Mul (only_atom (VariableAtom 0)) (pos 0) (only_atom (VariableAtom 0)) (pos 0)

-- that the square of X is at most 5
abbrev pub small_square : Known
small_square = record { terms = only_atom square; ends = from_to (pos 0) (pos 5) } ∷ []
