-- Atoms, lists of terms and sums that pass the test are the same.
use Rattle.std.proofs.Common.{◌≡◌, ℤ, true, ◌==◌, refl, ap}
use Rattle.std.specs.Ordering.{int_eq}
use Rattle.std.proofs.lemmas.Bool.{eqb-true}
use Rattle.std.proofs.lemmas.Bool.Decides.{Decides-int_eq}
use Rattle.model_core.proofs.BothTrue.{and_first, and_second}
use Rattle.tree_laws.specs.LinearSums.{Operation, Mul, Div, Rem, SumAtom, VariableAtom, ReceivedAtom, WordAtom, ClockAtom, CellAtom, OperationAtom, SumTerms, NoTerms, Term, LinearSum, same_operation, same_atom, same_terms, same_sum}

pub true-int_eq : (a b : ℤ) → int_eq a b ≡ true → a ≡ b
true-int_eq a b e = (Decides-int_eq a b).0 e

pub true-same_operation : (p q : Operation) → same_operation p q ≡ true → p ≡ q
true-same_operation Mul Mul e = refl
true-same_operation Div Div e = refl
true-same_operation Rem Rem e = refl
true-same_operation p q e = cc

mutual
  unfolding same_atom same_terms

  pub true-same_atom : (a b : SumAtom) → same_atom a b ≡ true → a ≡ b
  true-same_atom (VariableAtom i) (VariableAtom j) e = ap VariableAtom (eqb-true i j e)
  true-same_atom (ReceivedAtom i) (ReceivedAtom j) e = ap ReceivedAtom (eqb-true i j e)
  true-same_atom (WordAtom i) (WordAtom j) e = ap WordAtom (eqb-true i j e)
  true-same_atom ClockAtom ClockAtom e = refl
  true-same_atom (CellAtom i ts c) (CellAtom j us d) e =
      let one = eqb-true i j (and_first (i == j) _ e) in
      let more = and_second (i == j) _ e in
      let two = true-same_terms ts us (and_first (same_terms ts us) _ more) in
      let three = true-int_eq c d (and_second (same_terms ts us) _ more) in
      cc
  true-same_atom (OperationAtom p ts c us d) (OperationAtom q xs x ys y) e =
      let one = true-same_operation p q (and_first (same_operation p q) _ e) in
      let more = and_second (same_operation p q) _ e in
      let two = true-same_terms ts xs (and_first (same_terms ts xs) _ more) in
      let most = and_second (same_terms ts xs) _ more in
      let three = true-int_eq c x (and_first (int_eq c x) _ most) in
      let last = and_second (int_eq c x) _ most in
      let four = true-same_terms us ys (and_first (same_terms us ys) _ last) in
      let five = true-int_eq d y (and_second (same_terms us ys) _ last) in
      cc
  true-same_atom a b e = cc

  pub true-same_terms : (ts us : SumTerms) → same_terms ts us ≡ true → ts ≡ us
  true-same_terms NoTerms NoTerms e = refl
  true-same_terms (Term c a ts) (Term d b us) e =
      let one = true-int_eq c d (and_first (int_eq c d) _ e) in
      let more = and_second (int_eq c d) _ e in
      let two = true-same_atom a b (and_first (same_atom a b) _ more) in
      let three = true-same_terms ts us (and_second (same_atom a b) _ more) in
      cc
  true-same_terms ts us e = cc

pub true-same_sum : (s t : LinearSum) → same_sum s t ≡ true → s ≡ t
true-same_sum s t e =
    let one = true-same_terms s.terms t.terms (and_first (same_terms s.terms t.terms) _ e) in
    let two = true-int_eq s.constant t.constant (and_second (same_terms s.terms t.terms) _ e) in
    λ i. record { terms = one i; constant = two i }
