-- Decided trees and cases have the values that their names say.
use Rattle.std.proofs.Common.{◌≡◌, ℤ, pos, negsuc, ◌+ℤ◌, ◌-ℤ◌, ◌*ℤ◌, ◌≤ℤ◌, ◌<ℤ◌, int_lt, int_le, true, false, not, cond, refl, ap, sym, ◌∙◌, subst, arith}
use Rattle.std.specs.Ordering.{int_eq}
use Rattle.std.proofs.lemmas.Int.{ints}
use Rattle.sig_base.proofs.Tests.{true-int_le, int_le-true}
use Rattle.model_core.proofs.BothTrue.{and_first, and_second}
use Rattle.bound_laws.proofs.Soundness.Ends.{lt_of, of_not_le}
use Rattle.tree_laws.specs.LinearSums.{SumTerms, LinearSum, same_terms, sum_added, sum_scaled, divisor, primitive}
use Rattle.tree_laws.specs.SumValues.{Valuation, terms_value, sum_value}
use Rattle.tree_laws.specs.Limits.{Interval}
use Rattle.tree_laws.specs.SumEnds.{Ground, Known, primitive_ends}
use Rattle.tree_laws.specs.Meaning.{Meets, Holds}
use Rattle.tree_laws.specs.Trees.{CaseTree, Leaf, Case, tree_value, same_tree, vanishes_at, meet_at, decided_case, tree_decided, case_of}
use Rattle.tree_laws.proofs.Gives.{Gives, gives_some, then_gives, gives_weaker, gives_cond, holds_cond}
use Rattle.tree_laws.proofs.SameSums.{true-int_eq, true-same_terms, true-same_sum}
use Rattle.tree_laws.proofs.AddedSums.{sum_added-value, sum_scaled-value}
use Rattle.tree_laws.proofs.Divisors.{primitive-value}
use Rattle.tree_laws.proofs.EndsHold.{TermsWithin, primitive_ends-holds}

pub true-same_tree : (t u : CaseTree) → same_tree t u ≡ true → t ≡ u
unfolding same_tree
true-same_tree (Leaf s) (Leaf t) e = ap Leaf (true-same_sum s t e)
true-same_tree (Case p m a b) (Case q n c d) e =
    let one = true-same_terms p q (and_first (same_terms p q) _ e) in
    let more = and_second (same_terms p q) _ e in
    let two = true-int_eq m n (and_first (int_eq m n) _ more) in
    let most = and_second (int_eq m n) _ more in
    let three = true-same_tree a c (and_first (same_tree a c) _ most) in
    let four = true-same_tree b d (and_second (same_tree a c) _ most) in
    cc
true-same_tree t u e = cc

module _ (v : Valuation) where
  -- the value of a case
  abbrev pub either : SumTerms → ℤ → CaseTree → CaseTree → ℤ
  either p m low high = cond (int_le (terms_value v p) m) (tree_value v low) (tree_value v high)

  abbrev pub Has : ℤ → CaseTree → Type 0
  Has x t = tree_value v t ≡ x

  pub case-value : (p : SumTerms) (m : ℤ) (low high : CaseTree) → tree_value v (Case p m low high) ≡ either p m low high
  unfolding tree_value
  case-value p m low high = refl

  pub leaf-value : (s : LinearSum) → tree_value v (Leaf s) ≡ sum_value v s
  unfolding tree_value
  leaf-value s = refl

  pub either-low : (p : SumTerms) (m : ℤ) (low high : CaseTree) → terms_value v p ≤ℤ m → tree_value v low ≡ either p m low high
  either-low p m low high e = rw (int_le-true (terms_value v p) m e) refl

  not_at_most : (x m : ℤ) → m <ℤ x → int_le x m ≡ false
  not_at_most x m e = grind (arith, ints)

  pub either-high : (p : SumTerms) (m : ℤ) (low high : CaseTree) → m <ℤ terms_value v p → tree_value v high ≡ either p m low high
  either-high p m low high e = rw (not_at_most (terms_value v p) m e) refl

  -- the three tests by ends, where what is left has the value
  decided_case-value : (e : Interval) (p : SumTerms) (m : ℤ) (low high other : CaseTree) → TermsWithin v p e → tree_value v other ≡ either p m low high → Has (either p m low high) (decided_case e m low high other)
  decided_case-value e p m low high other w is =
      let x = either p m low high in
      holds_cond (Has x) (int_le e.hi m) low _
      (λ t. either-low p m low high (let top = true-int_le e.hi m t in omega (arith, ints, w.high)))
      (λ t. holds_cond (Has x) (int_lt m e.lo) high _
      (λ t. either-high p m low high (let top = lt_of m e.lo t in omega (arith, ints, w.low)))
      (λ t. holds_cond (Has x) (same_tree low high) low other
      (λ t. holds_cond (λ z. tree_value v low ≡ z) (int_le (terms_value v p) m) (tree_value v low) (tree_value v high) (λ u. refl) (λ u. ap (tree_value v) (true-same_tree low high t)))
      (λ t. is)))

  -- leaves that meet at m have one value where the list is m
  vanishing-value : (p : SumTerms) (m : ℤ) (d : LinearSum) → vanishes_at p m d ≡ true → terms_value v p ≡ m → sum_value v d ≡ pos 0
  vanishing-value p m d e is =
      let same = ap (terms_value v) (true-same_terms (primitive d.terms) p (and_first (same_terms (primitive d.terms) p) _ e)) ∙ is in
      let more = and_second (same_terms (primitive d.terms) p) _ e in
      let none = true-int_eq (divisor d.terms *ℤ m +ℤ d.constant) (pos 0) (and_second (not (int_eq (divisor d.terms) (pos 0))) _ more) in
      ap (λ x. x +ℤ d.constant) (sym (primitive-value v d.terms) ∙ ap (λ x. divisor d.terms *ℤ x) same) ∙ none

  module _ (base : Ground) where
    meeting-value : (p : SumTerms) (m : ℤ) (low high : CaseTree) → meet_at base p m low high ≡ true → terms_value v p ≡ m → tree_value v low ≡ tree_value v high
    meeting-value p m (Leaf s) (Leaf t) e is =
        let none = vanishing-value p m (sum_added base.before s (sum_scaled (negsuc 0) t)) e is in
        let all = sum_added-value v base.before s (sum_scaled (negsuc 0) t) in
        let less = sum_scaled-value v (negsuc 0) t in
        let one = leaf-value s in
        let two = leaf-value t in
        omega (arith, ints)
    meeting-value p m (Leaf s) (Case q n c d) e is = cc
    meeting-value p m (Case q n a b) high e is = cc

    lowered-value : (p : SumTerms) (m : ℤ) (low high : CaseTree) → meet_at base p m low high ≡ true → either p (m -ℤ pos 1) low high ≡ either p m low high
    lowered-value p m low high e =
        holds_cond (λ z. z ≡ either p m low high) (int_le (terms_value v p) (m -ℤ pos 1)) (tree_value v low) (tree_value v high)
        (λ t. either-low p m low high (let least = true-int_le (terms_value v p) (m -ℤ pos 1) t in omega (arith, ints)))
        (λ t. let above = of_not_le (terms_value v p) (m -ℤ pos 1) t in
        holds_cond (λ z. tree_value v high ≡ z) (int_le (terms_value v p) m) (tree_value v low) (tree_value v high)
        (λ u. let least = true-int_le (terms_value v p) m u in sym (meeting-value p m low high e (omega (arith, ints))))
        (λ u. refl))

  module _ (base : Ground) (k : Known) (meets : Meets base v) (h : Holds v k) where
    pub decided-value : (t : CaseTree) → Gives (tree_decided base k t) (Has (tree_value v t))
    unfolding tree_decided
    decided-value (Leaf s) = gives_some _ _ refl
    decided-value (Case p m low high) =
        let x = either p m low high in
        subst (λ x. Gives (tree_decided base k (Case p m low high)) (Has x)) (sym (case-value p m low high))
        (then_gives (TermsWithin v p) (Has x) (primitive_ends base k p) _ (primitive_ends-holds v base k meets h p)
        (λ e w. gives_cond (Has x) (int_le e.hi m) _ _
        (λ t. gives_weaker (Has x) _ (decided-value low) (λ u f. f ∙ either-low p m low high (let top = true-int_le e.hi m t in omega (arith, ints, w.high))))
        (λ t. gives_cond (Has x) (int_lt m e.lo) _ _
        (λ t. gives_weaker (Has x) _ (decided-value high) (λ u f. f ∙ either-high p m low high (let top = lt_of m e.lo t in omega (arith, ints, w.low))))
        (λ t. gives_some (Has x) _ (case-value p m low high)))))

    pub case_of-value : (p : SumTerms) (m : ℤ) (low high : CaseTree) → Gives (case_of base k p m low high) (Has (either p m low high))
    case_of-value p m low high =
        let x = either p m low high in
        then_gives (TermsWithin v p) (Has x) (primitive_ends base k p) _ (primitive_ends-holds v base k meets h p)
        (λ e w. gives_some (Has x) _ (decided_case-value e p m low high _ w
        (holds_cond (Has x) (meet_at base p m low high) _ _
        (λ t. decided_case-value e p (m -ℤ pos 1) low high _ w (case-value p (m -ℤ pos 1) low high) ∙ lowered-value base p m low high t)
        (λ t. case-value p m low high))))
