-- Trees of two models that agree: equal but for variables that count as one.
use Rattle.std.specs.Prelude.{◌≡◌, ℕ, ◌==◌, ℤ, Bool, true, false, ◌&&◌}
use Rattle.std.specs.Ordering.{int_eq}
use Rattle.tree_laws.specs.LinearSums.{SumAtom, VariableAtom, ReceivedAtom, WordAtom, ClockAtom, CellAtom, OperationAtom, SumTerms, NoTerms, Term, LinearSum, same_operation}
use Rattle.tree_laws.specs.SumValues.{Valuation}
use Rattle.tree_laws.specs.Trees.{CaseTree, Leaf, Case}

-- whether two variables count as one
module _ (one : ℕ → ℕ → Bool) where
  unfoldable mutual
    pub atoms_agree : SumAtom → SumAtom → Bool
    atoms_agree (VariableAtom i) (VariableAtom j) = one i j
    atoms_agree (ReceivedAtom i) (ReceivedAtom j) = i == j
    atoms_agree (WordAtom i) (WordAtom j) = i == j
    atoms_agree ClockAtom ClockAtom = true
    atoms_agree (CellAtom i ts c) (CellAtom j us d) = one i j && (terms_agree ts us && int_eq c d)
    atoms_agree (OperationAtom p ts c us d) (OperationAtom q xs e ys f) = same_operation p q && (terms_agree ts xs && (int_eq c e && (terms_agree us ys && int_eq d f)))
    atoms_agree a b = false

    pub terms_agree : SumTerms → SumTerms → Bool
    terms_agree NoTerms NoTerms = true
    terms_agree (Term c a ts) (Term d b us) = int_eq c d && (atoms_agree a b && terms_agree ts us)
    terms_agree ts us = false

  abbrev pub sums_agree : LinearSum → LinearSum → Bool
  sums_agree s t = terms_agree s.terms t.terms && int_eq s.constant t.constant

  unfoldable pub trees_agree : CaseTree → CaseTree → Bool
  trees_agree (Leaf s) (Leaf t) = sums_agree s t
  trees_agree (Case p m a b) (Case q n c d) = terms_agree p q && (int_eq m n && (trees_agree a c && trees_agree b d))
  trees_agree t u = false

  -- variables that count as one have one value, cells outside an array too, and all else is the same
  pub record ValuedAlike (v w : Valuation) : Type 0 where
    pub variables : (i j : ℕ) → one i j ≡ true → v.variable i ≡ w.variable j
    pub cells : (i j : ℕ) → one i j ≡ true → (x : ℤ) → v.cell i x ≡ w.cell j x
    pub received : (i : ℕ) → v.received i ≡ w.received i
    pub words : (i : ℕ) → v.word i ≡ w.word i
    pub clock : v.clock ≡ w.clock
