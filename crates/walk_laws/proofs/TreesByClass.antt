-- Trees that are the same by class agree.
use Rattle.std.proofs.Common.{◌≡◌, ℕ, ◌==◌, ℤ, Bool, true, ◌&&◌, refl, ap, ◌∙◌}
use Rattle.std.specs.Ordering.{int_eq}
use Rattle.std.proofs.lemmas.Bool.Decides.{Decides-eqb, Decides-int_eq}
use Rattle.tree_laws.specs.LinearSums.{Operation, Mul, Div, Rem, SumAtom, VariableAtom, ReceivedAtom, WordAtom, ClockAtom, CellAtom, OperationAtom, SumTerms, NoTerms, Term, LinearSum, same_operation}
use Rattle.tree_laws.specs.Trees.{CaseTree, Leaf, Case}
use Rattle.tree_laws.specs.Agreeing.{atoms_agree, terms_agree, trees_agree}
use Rattle.walk_laws.specs.ByClass.{atom_by, terms_by, tree_by, of_one_class}

both : (a b : Bool) → a ≡ true → b ≡ true → (a && b) ≡ true
both a b e f = cc

same-number : (i j : ℕ) → i ≡ j → (i == j) ≡ true
same-number i j e = (Decides-eqb i j).1 e

same-integer : (c d : ℤ) → c ≡ d → int_eq c d ≡ true
same-integer c d e = (Decides-int_eq c d).1 e

operations-agree : (p q : Operation) → p ≡ q → same_operation p q ≡ true
operations-agree Mul Mul e = refl
operations-agree Div Div e = refl
operations-agree Rem Rem e = refl
operations-agree p q e = cc

terms_of_leaf : CaseTree → SumTerms
terms_of_leaf (Leaf s) = s.terms
terms_of_leaf t = NoTerms

constant_of_leaf : CaseTree → ℤ
constant_of_leaf (Leaf s) = s.constant
constant_of_leaf (Case p m low high) = m

module _ (k l : ℕ → ℕ) where
  mutual
    unfolding atom_by terms_by atoms_agree terms_agree

    atoms-agree : (a b : SumAtom) → atom_by k a ≡ atom_by l b → atoms_agree (of_one_class k l) a b ≡ true
    atoms-agree (VariableAtom i) (VariableAtom j) e = same-number (k i) (l j) cc
    atoms-agree (ReceivedAtom i) (ReceivedAtom j) e = same-number i j cc
    atoms-agree (WordAtom i) (WordAtom j) e = same-number i j cc
    atoms-agree ClockAtom ClockAtom e = refl
    atoms-agree (CellAtom i ts c) (CellAtom j us d) e = both _ _ (same-number (k i) (l j) cc) (both _ _ (terms-agree ts us cc) (same-integer c d cc))
    atoms-agree (OperationAtom p ts c us d) (OperationAtom q xs x ys y) e = both _ _ (operations-agree p q cc) (both _ _ (terms-agree ts xs cc) (both _ _ (same-integer c x cc) (both _ _ (terms-agree us ys cc) (same-integer d y cc))))
    atoms-agree a b e = cc

    terms-agree : (ts us : SumTerms) → terms_by k ts ≡ terms_by l us → terms_agree (of_one_class k l) ts us ≡ true
    terms-agree NoTerms NoTerms e = refl
    terms-agree (Term c a ts) (Term d b us) e = both _ _ (same-integer c d cc) (both _ _ (atoms-agree a b cc) (terms-agree ts us cc))
    terms-agree ts us e = cc

  pub trees-agree : (t u : CaseTree) → tree_by k t ≡ tree_by l u → trees_agree (of_one_class k l) t u ≡ true
  unfolding tree_by trees_agree terms_of_leaf constant_of_leaf
  trees-agree (Leaf s) (Leaf t) e = both _ _ (terms-agree s.terms t.terms (ap terms_of_leaf e)) (same-integer s.constant t.constant (ap constant_of_leaf e))
  trees-agree (Case p m a b) (Case q n c d) e = both _ _ (terms-agree p q cc) (both _ _ (same-integer m n cc) (both _ _ (trees-agree a c cc) (trees-agree b d cc)))
  trees-agree t u e = cc
