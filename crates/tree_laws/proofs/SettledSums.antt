-- Operations on sums and settled sums have the values that their names say.
use Rattle.std.proofs.Common.{◌≡◌, ◌%◌, ◌<◌, ℤ, pos, negsuc, ◌+ℤ◌, ◌-ℤ◌, ◌*ℤ◌, ◌≤ℤ◌, int_le, unsigned_abs, true, not, ◌&&◌, refl, ap, ap₂, sym, ◌∙◌, subst, arith}
use Rattle.std.specs.Ordering.{int_eq}
use Rattle.std.proofs.lemmas.Int.{ints}
use Rattle.sig_base.proofs.Tests.{true-int_le}
use Rattle.model_core.proofs.BothTrue.{and_first, and_second}
use Rattle.tree_laws.specs.LinearSums.{Operation, Mul, Div, Rem, SumAtom, VariableAtom, ReceivedAtom, WordAtom, ClockAtom, CellAtom, OperationAtom, SumTerms, NoTerms, Term, LinearSum, number, atom_sum, same_sum, sum_divisor, sum_divided}
use Rattle.tree_laws.specs.SumValues.{Valuation, operation_value, atom_value, terms_value, sum_value}
use Rattle.tree_laws.specs.Limits.{Interval}
use Rattle.tree_laws.specs.SumEnds.{Ground, Known, atom_ends, sum_ends}
use Rattle.tree_laws.specs.SumSettled.{is_number, both_numbers, combined, added, scaled, subtracted, product_in_order, product, multiplied, quotient, stays_below, rest, operation, pinned, pinned_multiple, sum_closed, settled_atom, settled_terms, sum_settled}
use Rattle.tree_laws.specs.Meaning.{Within, Meets, Holds}
use Rattle.tree_laws.proofs.Gives.{Gives, gives_some, then_gives, gives_weaker, gives_cond, holds_cond, limited-gives}
use Rattle.tree_laws.proofs.WholeNumbers.{times_assoc}
use Rattle.tree_laws.proofs.SameSums.{true-int_eq, true-same_sum}
use Rattle.tree_laws.proofs.AddedSums.{term-value, no_terms-value, sum_added-value, sum_scaled-value}
use Rattle.tree_laws.proofs.Divisors.{sum_divided-value}
use Rattle.tree_laws.proofs.Intervals.{one_number}
use Rattle.tree_laws.proofs.EndsHold.{AtomWithin, SumWithin, alone-value, atom_ends-holds, sum_ends-holds}
use Rattle.std.proofs.Math.IntN.{*ℤ_comm}
use Rattle.std.proofs.Math.Nat.{mod-eq_of_lt}

-- two multiples multiplied
four : (g h x y : ℤ) → (g *ℤ h) *ℤ (x *ℤ y) ≡ (g *ℤ x) *ℤ (h *ℤ y)
four g h x y =
    times_assoc g h (x *ℤ y)
    ∙ ap (λ z. g *ℤ z) (sym (times_assoc h x y) ∙ ap (λ z. z *ℤ y) (*ℤ_comm h x) ∙ times_assoc x h y)
    ∙ sym (times_assoc g x (h *ℤ y))

by_one : (x y : ℤ) → y ≡ pos 1 → x ≡ operation_value Div x y
by_one (pos n) y e = subst (λ y. pos n ≡ operation_value Div (pos n) y) (sym e) (omega (arith, ints))
by_one (negsuc n) y e = subst (λ y. negsuc n ≡ operation_value Div (negsuc n) y) (sym e) (omega (arith, ints))

-- a number from 0 up and below another one in size is its own rest
below_size : (x y : ℤ) → pos 0 ≤ℤ x → (x +ℤ pos 1) ≤ℤ pos (unsigned_abs y) → x ≡ operation_value Rem x y
below_size (pos n) y low high =
    let below : n < unsigned_abs y = omega (arith, ints) in
    holds_cond (λ z. pos n ≡ z) (int_eq y (pos 0)) (pos 0) (pos (n % unsigned_abs y))
    (λ t. let none = ap unsigned_abs (true-int_eq y (pos 0) t) in absurd (omega arith))
    (λ t. ap pos (sym (mod-eq_of_lt below)))
below_size (negsuc n) y low high = absurd (omega (arith, ints))

below_divisor : (f : Interval) (x y n : ℤ) → Within f x → y ≡ n → stays_below n f ≡ true → x ≡ operation_value Rem x y
below_divisor f x y n w same small =
    let low = true-int_le (pos 0) f.lo (and_first (int_le (pos 0) f.lo) _ small) in
    let high = true-int_le (f.hi +ℤ pos 1) (pos (unsigned_abs n)) (and_second (int_le (pos 0) f.lo) _ small) in
    subst (λ y. x ≡ operation_value Rem x y) (sym same) (below_size x n (omega (arith, ints, w.low)) (omega (arith, ints, w.high)))

module _ (v : Valuation) where
  -- a sum of this value
  abbrev pub Is : ℤ → LinearSum → Type 0
  Is x s = sum_value v s ≡ x

  pub number-value : (n : ℤ) → sum_value v (number n) ≡ n
  number-value n = let none = no_terms-value v in omega (arith, ints)

  pub atom_sum-value : (a : SumAtom) → sum_value v (atom_sum a) ≡ atom_value v a
  atom_sum-value a = let one = alone-value v a in omega (arith, ints)

  combined-value : (op : Operation) (s t : LinearSum) → sum_value v (combined op s t) ≡ operation_value op (sum_value v s) (sum_value v t)
  unfolding atom_value
  combined-value op s t = atom_sum-value (OperationAtom op s.terms s.constant t.terms t.constant)

  is_number-value : (s : LinearSum) → is_number s ≡ true → sum_value v s ≡ s.constant
  is_number-value s e = by s.terms e where
    by : (ts : SumTerms) → is_number (record { terms = ts; constant = s.constant }) ≡ true → terms_value v ts +ℤ s.constant ≡ s.constant
    by NoTerms e = let none = no_terms-value v in omega (arith, ints)
    by (Term c a ts) e = cc

  both_numbers-value : (op : Operation) (s t : LinearSum) → both_numbers s t ≡ true → operation_value op s.constant t.constant ≡ operation_value op (sum_value v s) (sum_value v t)
  both_numbers-value op s t e = ap₂ (operation_value op) (sym (is_number-value s (and_first (is_number s) _ e))) (sym (is_number-value t (and_second (is_number s) _ e)))

  module _ (base : Ground) where
    pub added-value : (s t : LinearSum) → Gives (added base s t) (Is (sum_value v s +ℤ sum_value v t))
    added-value s t = limited-gives _ _ (sum_added-value v base.before s t)

    pub scaled-value : (k : ℤ) (s : LinearSum) → Gives (scaled base k s) (Is (k *ℤ sum_value v s))
    scaled-value k s = limited-gives _ _ (sum_scaled-value v k s)

    pub subtracted-value : (s t : LinearSum) → Gives (subtracted base s t) (Is (sum_value v s -ℤ sum_value v t))
    subtracted-value s t =
        then_gives (Is (negsuc 0 *ℤ sum_value v t)) (Is (sum_value v s -ℤ sum_value v t)) (scaled base (negsuc 0) t) _ (scaled-value (negsuc 0) t)
        (λ u e. gives_weaker (Is (sum_value v s -ℤ sum_value v t)) _ (added-value s u) (λ r f. omega (arith, ints)))

    in_order-value : (s t : LinearSum) → sum_value v (product_in_order base s t) ≡ sum_value v s *ℤ sum_value v t
    in_order-value s t =
        holds_cond (Is (sum_value v s *ℤ sum_value v t)) (base.sum_before t s) (combined Mul t s) (combined Mul s t)
        (λ e. combined-value Mul t s ∙ *ℤ_comm (sum_value v t) (sum_value v s))
        (λ e. combined-value Mul s t)

    product-value : (s t : LinearSum) → Gives (product base s t) (Is (sum_value v s *ℤ sum_value v t))
    product-value s t =
        let g = sum_divisor s in
        let h = sum_divisor t in
        let x = sum_value v (sum_divided g s) in
        let y = sum_value v (sum_divided h t) in
        gives_weaker (Is (sum_value v s *ℤ sum_value v t)) _ (scaled-value (g *ℤ h) (product_in_order base (sum_divided g s) (sum_divided h t)))
        (λ r e. e ∙ ap (λ z. (g *ℤ h) *ℤ z) (in_order-value (sum_divided g s) (sum_divided h t)) ∙ four g h x y ∙ ap₂ (λ a b. a *ℤ b) (sum_divided-value v s) (sum_divided-value v t))

    multiplied-value : (s t : LinearSum) → Gives (multiplied base s t) (Is (sum_value v s *ℤ sum_value v t))
    multiplied-value s t =
        gives_cond (Is (sum_value v s *ℤ sum_value v t)) (is_number s) _ _
        (λ e. gives_weaker (Is (sum_value v s *ℤ sum_value v t)) _ (scaled-value s.constant t) (λ r f. f ∙ ap (λ x. x *ℤ sum_value v t) (sym (is_number-value s e))))
        (λ e. gives_cond (Is (sum_value v s *ℤ sum_value v t)) (is_number t) _ _
        (λ e. gives_weaker (Is (sum_value v s *ℤ sum_value v t)) _ (scaled-value t.constant s) (λ r f. f ∙ ap (λ x. x *ℤ sum_value v s) (sym (is_number-value t e)) ∙ *ℤ_comm (sum_value v t) (sum_value v s)))
        (λ e. product-value s t))

    quotient-value : (s t : LinearSum) → Gives (quotient base s t) (Is (operation_value Div (sum_value v s) (sum_value v t)))
    quotient-value s t =
        let Q = Is (operation_value Div (sum_value v s) (sum_value v t)) in
        gives_cond Q (both_numbers s t) _ _
        (λ e. limited-gives Q _ (number-value _ ∙ both_numbers-value Div s t e))
        (λ e. gives_cond Q (same_sum t (number (pos 1))) _ _
        (λ e. gives_some Q s (by_one (sum_value v s) (sum_value v t) (ap (sum_value v) (true-same_sum t (number (pos 1)) e) ∙ number-value (pos 1))))
        (λ e. limited-gives Q _ (combined-value Div s t)))

    module _ (k : Known) (meets : Meets base v) (h : Holds v k) where
      rest-value : (s t : LinearSum) → Gives (rest base k s t) (Is (operation_value Rem (sum_value v s) (sum_value v t)))
      rest-value s t =
          let Q = Is (operation_value Rem (sum_value v s) (sum_value v t)) in
          gives_cond Q (both_numbers s t) _ _
          (λ e. limited-gives Q _ (number-value _ ∙ both_numbers-value Rem s t e))
          (λ e. gives_cond Q (is_number t && not (int_eq t.constant (pos 0))) _ _
          (λ e. then_gives (SumWithin v s) Q (sum_ends base k s) _ (sum_ends-holds v base k meets h s)
          (λ f w. gives_cond Q (stays_below t.constant f) _ _
          (λ small. gives_some Q s (below_divisor f (sum_value v s) (sum_value v t) t.constant w (is_number-value t (and_first (is_number t) _ e)) small))
          (λ large. limited-gives Q _ (combined-value Rem s t))))
          (λ e. limited-gives Q _ (combined-value Rem s t)))

      pub operation-value : (op : Operation) (s t : LinearSum) → Gives (operation base k op s t) (Is (operation_value op (sum_value v s) (sum_value v t)))
      operation-value Mul s t = multiplied-value s t
      operation-value Div s t = quotient-value s t
      operation-value Rem s t = rest-value s t

      pub pinned-value : (a : SumAtom) → Gives (pinned base k a) (Is (atom_value v a))
      pinned-value a =
          then_gives (AtomWithin v a) (Is (atom_value v a)) (atom_ends base k a) _ (atom_ends-holds v base k meets h a)
          (λ e w. gives_some _ _ (holds_cond (Is (atom_value v a)) (int_eq e.lo e.hi) (number e.lo) (atom_sum a)
          (λ t. number-value e.lo ∙ one_number e _ w t)
          (λ t. atom_sum-value a)))

      pinned_multiple-value : (ts : SumTerms) (n : ℤ) → Gives (pinned_multiple base k ts n) (Is (terms_value v ts +ℤ n))
      pinned_multiple-value NoTerms n = gives_some _ _ refl
      pinned_multiple-value (Term c a NoTerms) n =
          let Q = Is (terms_value v (Term c a NoTerms) +ℤ n) in
          then_gives (Is (atom_value v a)) Q (pinned base k a) _ (pinned-value a)
          (λ s e. then_gives (Is (c *ℤ sum_value v s)) Q (scaled base c s) _ (scaled-value c s)
          (λ t f. gives_weaker Q _ (added-value t (number n))
          (λ r g.
          let one = term-value v c a NoTerms in
          let none = no_terms-value v in
          let same = ap (λ x. c *ℤ x) e in
          let last = number-value n in
          omega (arith, ints))))
      pinned_multiple-value (Term c a (Term d b ts)) n = gives_some _ _ refl

      finished-value : (s : LinearSum) (c : ℤ) → Gives (sum_closed base k s c) (Is (sum_value v s +ℤ c))
      finished-value s c =
          let Q = Is (sum_value v s +ℤ c) in
          then_gives Q Q (added base s (number c)) _ (gives_weaker Q _ (added-value s (number c)) (λ t e. let last = number-value c in omega (arith, ints)))
          (λ t e. then_gives (SumWithin v t) Q (sum_ends base k t) _ (sum_ends-holds v base k meets h t)
          (λ f w. gives_some Q _ (holds_cond Q (int_eq f.lo f.hi) (number f.lo) t (λ one. number-value f.lo ∙ one_number f _ w one ∙ e) (λ more. e))))

      mutual
        unfolding settled_atom settled_terms atom_value terms_value

        settled_atom-value : (a : SumAtom) → Gives (settled_atom base k a) (Is (atom_value v a))
        settled_atom-value (VariableAtom i) = pinned-value (VariableAtom i)
        settled_atom-value (ReceivedAtom i) = pinned-value (ReceivedAtom i)
        settled_atom-value (WordAtom i) = pinned-value (WordAtom i)
        settled_atom-value ClockAtom = pinned-value ClockAtom
        settled_atom-value (CellAtom i ts c) =
            let Q = Is (atom_value v (CellAtom i ts c)) in
            then_gives (Is (terms_value v ts)) Q (settled_terms base k ts) _ (settled_terms-value ts)
            (λ r e. then_gives (Is (sum_value v r +ℤ c)) Q (sum_closed base k r c) _ (finished-value r c)
            (λ s f. gives_weaker Q _ (pinned-value (CellAtom i s.terms s.constant)) (λ t g. g ∙ ap (v.cell i) (f ∙ ap (λ x. x +ℤ c) e))))
        settled_atom-value (OperationAtom op ts c us d) =
            let Q = Is (atom_value v (OperationAtom op ts c us d)) in
            then_gives (Is (terms_value v ts)) Q (settled_terms base k ts) _ (settled_terms-value ts)
            (λ q e. then_gives (Is (sum_value v q +ℤ c)) Q (sum_closed base k q c) _ (finished-value q c)
            (λ s f. then_gives (Is (terms_value v us)) Q (settled_terms base k us) _ (settled_terms-value us)
            (λ r e'. then_gives (Is (sum_value v r +ℤ d)) Q (sum_closed base k r d) _ (finished-value r d)
            (λ t f'. then_gives (Is (operation_value op (sum_value v s) (sum_value v t))) Q (operation base k op s t) _ (operation-value op s t)
            (λ o g. gives_weaker Q _ (pinned_multiple-value o.terms o.constant)
            (λ z y. y ∙ g ∙ ap₂ (operation_value op) (f ∙ ap (λ x. x +ℤ c) e) (f' ∙ ap (λ x. x +ℤ d) e')))))))

        settled_terms-value : (ts : SumTerms) → Gives (settled_terms base k ts) (Is (terms_value v ts))
        settled_terms-value NoTerms = gives_some _ _ (number-value (pos 0))
        settled_terms-value (Term c a ts) =
            let Q = Is (terms_value v (Term c a ts)) in
            then_gives (Is (atom_value v a)) Q (settled_atom base k a) _ (settled_atom-value a)
            (λ s e. then_gives (Is (c *ℤ sum_value v s)) Q (scaled base c s) _ (scaled-value c s)
            (λ t f. then_gives (Is (terms_value v ts)) Q (settled_terms base k ts) _ (settled_terms-value ts)
            (λ r g. gives_weaker Q _ (added-value t r)
            (λ z y. y ∙ ap₂ (λ a b. a +ℤ b) (f ∙ ap (λ x. c *ℤ x) e) g))))

      -- a settled sum has the sum's value
      pub settled-value : (s : LinearSum) → Gives (sum_settled base k s) (Is (sum_value v s))
      settled-value s =
          then_gives (Is (terms_value v s.terms)) (Is (sum_value v s)) (settled_terms base k s.terms) _ (settled_terms-value s.terms)
          (λ r e. gives_weaker (Is (sum_value v s)) _ (finished-value r s.constant) (λ t f. f ∙ ap (λ x. x +ℤ s.constant) e))
