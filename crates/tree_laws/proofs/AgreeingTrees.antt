-- Trees that agree have one value, where what counts as one has one value.
use Rattle.std.proofs.Common.{◌≡◌, ℕ, ◌+ℤ◌, ◌*ℤ◌, int_le, Bool, true, cond, refl, ap, ap₂, ◌∙◌}
use Rattle.std.specs.Ordering.{int_eq}
use Rattle.std.proofs.lemmas.Bool.{eqb-true}
use Rattle.model_core.proofs.BothTrue.{and_first, and_second}
use Rattle.tree_laws.specs.LinearSums.{SumAtom, VariableAtom, ReceivedAtom, WordAtom, ClockAtom, CellAtom, OperationAtom, SumTerms, NoTerms, Term, same_operation}
use Rattle.tree_laws.specs.SumValues.{Valuation, operation_value, atom_value, terms_value}
use Rattle.tree_laws.specs.Trees.{CaseTree, Leaf, Case, tree_value}
use Rattle.tree_laws.specs.Agreeing.{atoms_agree, terms_agree, trees_agree, ValuedAlike}
use Rattle.tree_laws.proofs.SameSums.{true-int_eq, true-same_operation}

module _ (one : ℕ → ℕ → Bool) (v w : Valuation) (alike : ValuedAlike one v w) where
  mutual
    unfolding atoms_agree terms_agree atom_value terms_value

    atoms-alike : (a b : SumAtom) → atoms_agree one a b ≡ true → atom_value v a ≡ atom_value w b
    atoms-alike (VariableAtom i) (VariableAtom j) e = alike.variables i j e
    atoms-alike (ReceivedAtom i) (ReceivedAtom j) e = alike.received i ∙ ap w.received (eqb-true i j e)
    atoms-alike (WordAtom i) (WordAtom j) e = alike.words i ∙ ap w.word (eqb-true i j e)
    atoms-alike ClockAtom ClockAtom e = alike.clock
    atoms-alike (CellAtom i ts c) (CellAtom j us d) e =
        let more = and_second (one i j) _ e in
        alike.cells i j (and_first (one i j) _ e) (terms_value v ts +ℤ c)
        ∙ ap (w.cell j) (ap₂ (λ x y. x +ℤ y) (terms-alike ts us (and_first (terms_agree one ts us) _ more)) (true-int_eq c d (and_second (terms_agree one ts us) _ more)))
    atoms-alike (OperationAtom p ts c us d) (OperationAtom q xs x ys y) e =
        let more = and_second (same_operation p q) _ e in
        let most = and_second (terms_agree one ts xs) _ more in
        let last = and_second (int_eq c x) _ most in
        let left = ap₂ (λ x y. x +ℤ y) (terms-alike ts xs (and_first (terms_agree one ts xs) _ more)) (true-int_eq c x (and_first (int_eq c x) _ most)) in
        let right = ap₂ (λ x y. x +ℤ y) (terms-alike us ys (and_first (terms_agree one us ys) _ last)) (true-int_eq d y (and_second (terms_agree one us ys) _ last)) in
        ap₂ (operation_value p) left right ∙ ap (λ o. operation_value o (terms_value w xs +ℤ x) (terms_value w ys +ℤ y)) (true-same_operation p q (and_first (same_operation p q) _ e))
    atoms-alike a b e = cc

    terms-alike : (ts us : SumTerms) → terms_agree one ts us ≡ true → terms_value v ts ≡ terms_value w us
    terms-alike NoTerms NoTerms e = refl
    terms-alike (Term c a ts) (Term d b us) e =
        let more = and_second (int_eq c d) _ e in
        ap₂ (λ x y. x +ℤ y)
        (ap₂ (λ x y. x *ℤ y) (true-int_eq c d (and_first (int_eq c d) _ e)) (atoms-alike a b (and_first (atoms_agree one a b) _ more)))
        (terms-alike ts us (and_second (atoms_agree one a b) _ more))
    terms-alike ts us e = cc

  pub trees-alike : (t u : CaseTree) → trees_agree one t u ≡ true → tree_value v t ≡ tree_value w u
  unfolding trees_agree tree_value
  trees-alike (Leaf s) (Leaf t) e = ap₂ (λ x y. x +ℤ y) (terms-alike s.terms t.terms (and_first (terms_agree one s.terms t.terms) _ e)) (true-int_eq s.constant t.constant (and_second (terms_agree one s.terms t.terms) _ e))
  trees-alike (Case p m a b) (Case q n c d) e =
      let more = and_second (terms_agree one p q) _ e in
      let most = and_second (int_eq m n) _ more in
      ap₂ (λ t xy. cond t xy (tree_value v b)) (ap₂ int_le (terms-alike p q (and_first (terms_agree one p q) _ e)) (true-int_eq m n (and_first (int_eq m n) _ more))) (trees-alike a c (and_first (trees_agree one a c) _ most))
      ∙ ap (cond (int_le (terms_value w q) n) (tree_value w c)) (trees-alike b d (and_second (trees_agree one a c) _ most))
  trees-alike t u e = cc
