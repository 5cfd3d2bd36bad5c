-- Trees with classes in place of variables.
use Rattle.std.specs.Prelude.{◌≡◌, ℕ, ◌==◌, Bool, List, [], ◌∷◌}
use Rattle.tree_laws.specs.LinearSums.{SumAtom, VariableAtom, ReceivedAtom, WordAtom, ClockAtom, CellAtom, OperationAtom, SumTerms, NoTerms, Term, LinearSum}
use Rattle.tree_laws.specs.Trees.{CaseTree, Leaf, Case}

module _ (class : ℕ → ℕ) where
  unfoldable mutual
    pub atom_by : SumAtom → SumAtom
    atom_by (VariableAtom i) = VariableAtom (class i)
    atom_by (ReceivedAtom i) = ReceivedAtom i
    atom_by (WordAtom i) = WordAtom i
    atom_by ClockAtom = ClockAtom
    atom_by (CellAtom i ts c) = CellAtom (class i) (terms_by ts) c
    atom_by (OperationAtom op ts c us d) = OperationAtom op (terms_by ts) c (terms_by us) d

    pub terms_by : SumTerms → SumTerms
    terms_by NoTerms = NoTerms
    terms_by (Term c a ts) = Term c (atom_by a) (terms_by ts)

  unfoldable pub tree_by : CaseTree → CaseTree
  tree_by (Leaf s) = Leaf (record { terms = terms_by s.terms; constant = s.constant })
  tree_by (Case p m low high) = Case (terms_by p) m (tree_by low) (tree_by high)

-- variables of one class count as one
abbrev pub of_one_class : (ℕ → ℕ) → (ℕ → ℕ) → ℕ → ℕ → Bool
of_one_class k l i j = k i == l j
