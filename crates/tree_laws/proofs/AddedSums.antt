-- The values of sums that are added and multiplied.
use Rattle.std.proofs.Common.{◌≡◌, ℤ, pos, ◌+ℤ◌, ◌*ℤ◌, Bool, true, false, cond, refl, ap, sym, ◌∙◌, arith}
use Rattle.std.specs.Ordering.{int_eq}
use Rattle.std.proofs.lemmas.Int.{ints}
use Rattle.std.proofs.Math.IntN.{zero-*ℤ, *ℤ-zero}
use Rattle.tree_laws.specs.LinearSums.{SumAtom, SumTerms, NoTerms, Term, LinearSum, same_atom, term_unless_zero, with_term, terms_added, sum_added, terms_scaled, sum_scaled, number}
use Rattle.tree_laws.specs.SumValues.{Valuation, atom_value, terms_value, sum_value}
use Rattle.tree_laws.proofs.WholeNumbers.{add-times, times-add, times_assoc}
use Rattle.tree_laws.proofs.SameSums.{true-int_eq, true-same_atom}

module _ (v : Valuation) where
  pub term-value : (c : ℤ) (a : SumAtom) (ts : SumTerms) → terms_value v (Term c a ts) ≡ c *ℤ atom_value v a +ℤ terms_value v ts
  unfolding terms_value
  term-value c a ts = refl

  pub no_terms-value : terms_value v NoTerms ≡ pos 0
  unfolding terms_value
  no_terms-value = refl

  unless_zero-value : (c : ℤ) (a : SumAtom) (ts : SumTerms) → terms_value v (term_unless_zero c a ts) ≡ c *ℤ atom_value v a +ℤ terms_value v ts
  unless_zero-value c a ts = by (int_eq c (pos 0)) refl where
    by : (b : Bool) → int_eq c (pos 0) ≡ b → terms_value v (cond b ts (Term c a ts)) ≡ c *ℤ atom_value v a +ℤ terms_value v ts
    by true e = let none = ap (λ x. x *ℤ atom_value v a) (true-int_eq c (pos 0) e) ∙ zero-*ℤ (atom_value v a) in omega (arith, ints)
    by false e = term-value c a ts

  module _ (before : SumAtom → SumAtom → Bool) where
    with_term-value : (c : ℤ) (a : SumAtom) (ts : SumTerms) → terms_value v (with_term before c a ts) ≡ c *ℤ atom_value v a +ℤ terms_value v ts
    unfolding with_term
    with_term-value c a NoTerms = term-value c a NoTerms
    with_term-value c a (Term d b ts) = by (with_term-value c a ts) (same_atom a b) (before a b) refl where
      by : terms_value v (with_term before c a ts) ≡ c *ℤ atom_value v a +ℤ terms_value v ts → (t u : Bool) → same_atom a b ≡ t → terms_value v (cond t (term_unless_zero (c +ℤ d) b ts) (cond u (Term c a (Term d b ts)) (Term d b (with_term before c a ts)))) ≡ c *ℤ atom_value v a +ℤ terms_value v (Term d b ts)
      by rest true u e =
          let same = ap (λ a. c *ℤ atom_value v a) (true-same_atom a b e) in
          let split = add-times c d (atom_value v b) in
          let all = unless_zero-value (c +ℤ d) b ts in
          let one = term-value d b ts in
          omega (arith, ints)
      by rest false true e = term-value c a (Term d b ts)
      by rest false false e =
          let one = term-value d b ts in
          let all = term-value d b (with_term before c a ts) in
          omega (arith, ints)

    pub terms_added-value : (ts us : SumTerms) → terms_value v (terms_added before ts us) ≡ terms_value v ts +ℤ terms_value v us
    unfolding terms_added
    terms_added-value NoTerms us = let none = no_terms-value in omega (arith, ints)
    terms_added-value (Term c a ts) us =
        let rest = terms_added-value ts us in
        let one = term-value c a ts in
        let all = with_term-value c a (terms_added before ts us) in
        omega (arith, ints)

    pub sum_added-value : (s t : LinearSum) → sum_value v (sum_added before s t) ≡ sum_value v s +ℤ sum_value v t
    sum_added-value s t = let terms = terms_added-value s.terms t.terms in omega (arith, ints)

  pub terms_scaled-value : (k : ℤ) (ts : SumTerms) → terms_value v (terms_scaled k ts) ≡ k *ℤ terms_value v ts
  unfolding terms_scaled
  terms_scaled-value k NoTerms = no_terms-value ∙ sym (*ℤ-zero k) ∙ ap (λ x. k *ℤ x) (sym no_terms-value)
  terms_scaled-value k (Term c a ts) =
      let rest = terms_scaled-value k ts in
      let all = term-value (k *ℤ c) a (terms_scaled k ts) in
      let first = times_assoc k c (atom_value v a) in
      let split = times-add k (c *ℤ atom_value v a) (terms_value v ts) in
      let one = ap (λ x. k *ℤ x) (term-value c a ts) in
      omega (arith, ints)

  pub sum_scaled-value : (k : ℤ) (s : LinearSum) → sum_value v (sum_scaled k s) ≡ k *ℤ sum_value v s
  sum_scaled-value k s = by (int_eq k (pos 0)) refl where
    by : (b : Bool) → int_eq k (pos 0) ≡ b → sum_value v (cond b (number (pos 0)) (record { terms = terms_scaled k s.terms; constant = k *ℤ s.constant })) ≡ k *ℤ sum_value v s
    by true e =
        let none = ap (λ x. x *ℤ sum_value v s) (true-int_eq k (pos 0) e) ∙ zero-*ℤ (sum_value v s) in
        let empty = no_terms-value in
        omega (arith, ints)
    by false e =
        let terms = terms_scaled-value k s.terms in
        let split = times-add k (terms_value v s.terms) s.constant in
        omega (arith, ints)
