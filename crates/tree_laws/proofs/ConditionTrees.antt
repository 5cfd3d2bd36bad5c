-- Spliced trees, conditions, and what is learned of a condition.
use Rattle.std.proofs.Common.{◌≡◌, ℕ, zero, suc, ℤ, pos, negsuc, ◌+ℤ◌, ◌-ℤ◌, ◌*ℤ◌, ◌≤ℤ◌, ◌<ℤ◌, neg_ℤ, int_lt, int_le, Option, Some, Bool, true, false, not, ◌&&◌, cond, ◌⊎◌, inl, inr, refl, ap, ap₂, sym, ◌∙◌, subst, arith}
use Rattle.std.specs.Ordering.{int_eq}
use Rattle.std.proofs.lemmas.Int.{ints, clamps}
use Rattle.sig_base.proofs.Tests.{true-int_le, int_le-true, int_eq-true}
use Rattle.std.proofs.lemmas.Bool.{false_from_ne_true, and_left}
use Rattle.bound_laws.proofs.Soundness.Ends.{lt_of, of_not_le}
use Rattle.model_core.specs.Run.State.{within}
use Rattle.tree_laws.specs.LinearSums.{SumAtom, CellAtom, SumTerms, NoTerms, Term, LinearSum, number, only_atom, atom_sum, divisor, primitive}
use Rattle.tree_laws.specs.SumValues.{Valuation, atom_value, terms_value, sum_value}
use Rattle.tree_laws.specs.Limits.{Interval}
use Rattle.tree_laws.specs.SumEnds.{Ground, Known, primitive_ends, atom_ends, known_most, known_above}
use Rattle.tree_laws.specs.Meaning.{Within, Meets, Holds}
use Rattle.tree_laws.specs.SumSettled.{sum_settled}
use Rattle.tree_laws.specs.Trees.{CaseTree, Leaf, Case, tree_value}
use Rattle.tree_laws.specs.TreesJoined.{tree_difference}
use Rattle.tree_laws.specs.TreeConditions.{number_tree, is_zero_tree, floor_div, spliced, at_most_by, at_most_leaf, at_most_tree, less_tree, equal_tree, between_tree, opposite_tree, read_tree, learned, both_ends, tree_ends, cell_leaf, read_cell}
use Rattle.tree_laws.proofs.Gives.{Gives, gives_some, gives_none, then_gives, gives_weaker, gives_cond, holds_cond}
use Rattle.tree_laws.proofs.SameSums.{true-int_eq, true-same_sum}
use Rattle.tree_laws.proofs.Divisors.{primitive-value}
use Rattle.tree_laws.proofs.Intervals.{one_number}
use Rattle.tree_laws.proofs.EndsHold.{TermsWithin, AtomWithin, alone-value, atom_ends-holds, primitive_ends-holds, sum_ends-holds, known_most-holds, known_above-holds}
use Rattle.tree_laws.proofs.SettledSums.{Is, number-value, atom_sum-value, settled-value}
use Rattle.tree_laws.proofs.CasesOfTrees.{either, Has, case-value, leaf-value, either-low, either-high, case_of-value}
use Rattle.tree_laws.proofs.JoinedTrees.{gives_if, Chosen, choose-value, tree_difference-value}
use Rattle.tree_laws.proofs.Floors.{same_test, floor-test, floor-opposite}

-- 1 where a test passes, and else 0
abbrev pub truth : Bool → ℤ
truth b = cond b (pos 1) (pos 0)

-- 0 where the first test passes, and else what the second says
one_excludes : (a b c : Bool) → (a ≡ true → c ≡ false) → (a ≡ false → b ≡ c) → cond a (pos 0) (truth b) ≡ truth c
one_excludes true b c p q = ap truth (sym (p refl))
one_excludes false b c p q = ap truth (q refl)

module _ (v : Valuation) (base : Ground) (meets : Meets base v) where
  pub constant-value : (n : ℤ) → tree_value v (number_tree n) ≡ n
  constant-value n = leaf-value v _ ∙ number-value v n

  -- of a condition that is 1 where the list is at most m, the one where it holds
  chosen_side : (p : SumTerms) (m x y z : ℤ) → Chosen (tree_value v (Case p m (number_tree (pos 1)) (number_tree (pos 0)))) x y z → (terms_value v p ≤ℤ m → z ≡ x) × (m <ℤ terms_value v p → z ≡ y)
  chosen_side p m x y z c =
      let all = case-value v p m (number_tree (pos 1)) (number_tree (pos 0)) in (
        λ least. c.one (all ∙ sym (either-low v p m (number_tree (pos 1)) (number_tree (pos 0)) least) ∙ constant-value (pos 1)),
        λ above. c.none (all ∙ sym (either-high v p m (number_tree (pos 1)) (number_tree (pos 0)) above) ∙ constant-value (pos 0)),
      )

  -- where the list is at most m, and where it is above it
  by_sides : {P : Type 0} (p : SumTerms) (m : ℤ) → (terms_value v p ≤ℤ m → P) → (m <ℤ terms_value v p → P) → P
  by_sides {P} p m low high = by (int_le (terms_value v p) m) refl where
    by : (b : Bool) → int_le (terms_value v p) m ≡ b → P
    by true e = low (true-int_le (terms_value v p) m e)
    by false e = high (of_not_le (terms_value v p) m e)

  low-value : (p : SumTerms) (m : ℤ) (low high : CaseTree) → terms_value v p ≤ℤ m → tree_value v low ≡ tree_value v (Case p m low high)
  low-value p m low high least = either-low v p m low high least ∙ sym (case-value v p m low high)

  high-value : (p : SumTerms) (m : ℤ) (low high : CaseTree) → m <ℤ terms_value v p → tree_value v high ≡ tree_value v (Case p m low high)
  high-value p m low high above = either-high v p m low high above ∙ sym (case-value v p m low high)

  -- lists between ends that decide a case
  ends_low : (p : SumTerms) (m : ℤ) (e : Interval) → TermsWithin v p e → int_le e.hi m ≡ true → terms_value v p ≤ℤ m
  ends_low p m e w t = let top = true-int_le e.hi m t in omega (arith, ints, w.high)

  ends_high : (p : SumTerms) (m : ℤ) (e : Interval) → TermsWithin v p e → int_lt m e.lo ≡ true → m <ℤ terms_value v p
  ends_high p m e w t = let top = lt_of m e.lo t in omega (arith, ints, w.low)

  -- ---- spliced

  module _ (f : Known → LinearSum → Option CaseTree) (F : ℤ → ℤ → Type 0) (gives : (k : Known) → Holds v k → (s : LinearSum) → Gives (f k s) (λ t. F (sum_value v s) (tree_value v t))) where
    -- F of the values of this tree and another
    Goes : ℤ → CaseTree → Type 0
    Goes x t = F x (tree_value v t)

    spliced-value : (t : CaseTree) (k : Known) → Holds v k → Gives (spliced base f k t) (Goes (tree_value v t))
    unfolding spliced Goes
    spliced-value (Leaf s) k h =
        then_gives (Is v (sum_value v s)) (Goes (tree_value v (Leaf s))) (sum_settled base k s) _ (settled-value v base k meets h s)
        (λ t e. gives_weaker (Goes (tree_value v (Leaf s))) _ (gives k h t) (λ r g. subst (λ x. F x (tree_value v r)) (e ∙ sym (leaf-value v s)) g))
    spliced-value (Case p m low high) k h =
        let x = tree_value v (Case p m low high) in
        let Q = Goes x in
        then_gives (TermsWithin v p) Q (primitive_ends base k p) _ (primitive_ends-holds v base k meets h p)
        (λ e w. gives_cond Q (int_le e.hi m) _ _
        (λ t. subst (λ x. Gives (spliced base f k low) (Goes x)) (low-value p m low high (ends_low p m e w t)) (spliced-value low k h))
        (λ t. gives_cond Q (int_lt m e.lo) _ _
        (λ t. subst (λ x. Gives (spliced base f k high) (Goes x)) (high-value p m low high (ends_high p m e w t)) (spliced-value high k h))
        (λ t. then_gives (λ u. terms_value v p ≤ℤ m → Holds v u) Q (known_most base k p m) _ (gives_if (Holds v) _ (known_most-holds v base k meets h p m))
        (λ under lowly. then_gives (λ u. m <ℤ terms_value v p → Holds v u) Q (known_above base k p m) _ (gives_if (Holds v) _ (known_above-holds v base k meets h p m))
        (λ over highly. then_gives (λ a. terms_value v p ≤ℤ m → Goes (tree_value v low) a) Q (spliced base f under low) _ (gives_if (Goes (tree_value v low)) _ (λ least. spliced-value low under (lowly least)))
        (λ a is_a. then_gives (λ b. m <ℤ terms_value v p → Goes (tree_value v high) b) Q (spliced base f over high) _ (gives_if (Goes (tree_value v high)) _ (λ above. spliced-value high over (highly above)))
        (λ b is_b. gives_weaker Q _ (choose-value v base meets k h (Case p m (number_tree (pos 1)) (number_tree (pos 0))) a b)
        (λ r c. let sides = chosen_side p m (tree_value v a) (tree_value v b) (tree_value v r) c in
        by_sides p m
        (λ least. subst (λ y. F y (tree_value v r)) (low-value p m low high least) (subst (F (tree_value v low)) (sym (sides.0 least)) (is_a least)))
        (λ above. subst (λ y. F y (tree_value v r)) (high-value p m low high above) (subst (F (tree_value v high)) (sym (sides.1 above)) (is_b above)))))))))))

    pub spliced_gives : (t : CaseTree) (k : Known) → Holds v k → (r : CaseTree) → spliced base f k t ≡ Some r → F (tree_value v t) (tree_value v r)
    unfolding Goes
    spliced_gives t k h r is = (spliced-value t k h).gives r is

  -- ---- conditions

  -- the case of 1 and 0
  truth_case : (p : SumTerms) (m : ℤ) → either v p m (number_tree (pos 1)) (number_tree (pos 0)) ≡ truth (int_le (terms_value v p) m)
  truth_case p m = ap₂ (λ x y. cond (int_le (terms_value v p) m) x y) (constant-value (pos 1)) (constant-value (pos 0))

  false_case : (p : SumTerms) (m : ℤ) → either v p m (number_tree (pos 0)) (number_tree (pos 1)) ≡ truth (not (int_le (terms_value v p) m))
  false_case p m = ap₂ (λ x y. cond (int_le (terms_value v p) m) x y) (constant-value (pos 0)) (constant-value (pos 1)) ∙ turned (int_le (terms_value v p) m) where
    turned : (b : Bool) → cond b (pos 0) (pos 1) ≡ truth (not b)
    turned true = refl
    turned false = refl

  at_most_by-value : (g : ℤ) (k : Known) → Holds v k → (p : SumTerms) (d : ℤ) → Gives (at_most_by base g k p d) (Has v (truth (int_le (g *ℤ terms_value v p) d)))
  at_most_by-value (pos zero) k h p d = gives_none _
  at_most_by-value (pos (suc g)) k h p d =
      gives_weaker (Has v (truth (int_le (pos (suc g) *ℤ terms_value v p) d))) _ (case_of-value v base k meets h p _ _ _)
      (λ t e. e ∙ truth_case p (floor_div d (suc g)) ∙ ap truth (floor-test d (terms_value v p) g))
  at_most_by-value (negsuc g) k h p d =
      gives_weaker (Has v (truth (int_le (negsuc g *ℤ terms_value v p) d))) _ (case_of-value v base k meets h p _ _ _)
      (λ t e. e ∙ false_case p (neg_ℤ (floor_div d (suc g)) -ℤ pos 1) ∙ ap truth (floor-opposite d (terms_value v p) g))

  moved : (x c n : ℤ) → int_le x (n -ℤ c) ≡ int_le (x +ℤ c) n
  moved x c n = grind (arith, ints)

  at_most_terms-value : (ts : SumTerms) (c n : ℤ) (k : Known) → Holds v k → Gives (at_most_leaf base n k (record { terms = ts; constant = c })) (Has v (truth (int_le (terms_value v ts +ℤ c) n)))
  at_most_terms-value NoTerms c n k h = gives_some _ _ (constant-value _ ∙ ap (λ x. truth (int_le x n)) (sym (number-value v c)))
  at_most_terms-value (Term d a ts) c n k h =
      let us = Term d a ts in
      gives_weaker (Has v (truth (int_le (terms_value v us +ℤ c) n))) _ (at_most_by-value (divisor us) k h (primitive us) (n -ℤ c))
      (λ t e. e ∙ ap (λ x. truth (int_le x (n -ℤ c))) (primitive-value v us) ∙ ap truth (moved (terms_value v us) c n))

  -- a test that a number is at most n, as a relation of its values
  IsAtMost : ℤ → ℤ → ℤ → Type 0
  IsAtMost n x z = z ≡ truth (int_le x n)

  pub at_most-value : (n : ℤ) (k : Known) → Holds v k → (t : CaseTree) → Gives (at_most_tree base k t n) (Has v (truth (int_le (tree_value v t) n)))
  unfolding IsAtMost Goes
  at_most-value n k h t = spliced-value (at_most_leaf base n) (IsAtMost n) (λ k h s. at_most_terms-value s.terms s.constant n k h) t k h

  -- a condition that excludes another one: 0 where it is 1, and else the other
  excluded : (c x z : ℤ) (b : Bool) → Chosen c (pos 0) x z → c ≡ truth b → z ≡ cond b (pos 0) x
  excluded c x z true h e = h.one e
  excluded c x z false h e = h.none e

  module _ (k : Known) (h : Holds v k) where
    pub less-value : (a b : CaseTree) → Gives (less_tree base k a b) (Has v (truth (int_lt (tree_value v a) (tree_value v b))))
    less-value a b =
        let Q = Has v (truth (int_lt (tree_value v a) (tree_value v b))) in
        then_gives (Has v (tree_value v a -ℤ tree_value v b)) Q (tree_difference base k a b) _ (tree_difference-value v base meets k h a b)
        (λ d e. gives_weaker Q _ (at_most-value (negsuc 0) k h d) (λ t f. f ∙ ap (λ x. truth (int_le x (negsuc 0))) e ∙ ap truth (below (tree_value v a) (tree_value v b)))) where
          below : (x y : ℤ) → int_le (x -ℤ y) (negsuc 0) ≡ int_lt x y
          below x y = grind (arith, ints)

    two_tests : (x y : ℤ) → cond (int_le (x -ℤ y) (negsuc 0)) (pos 0) (truth (int_le (x -ℤ y) (pos 0))) ≡ truth (int_eq x y)
    two_tests x y =
        one_excludes (int_le (x -ℤ y) (negsuc 0)) (int_le (x -ℤ y) (pos 0)) (int_eq x y)
        (λ e. let less = true-int_le (x -ℤ y) (negsuc 0) e in false_from_ne_true (int_eq x y) (λ t. let same = true-int_eq x y t in absurd (omega (arith, ints))))
        (λ e. let more = of_not_le (x -ℤ y) (negsuc 0) e in same_test (int_le (x -ℤ y) (pos 0)) (int_eq x y)
        (λ t. let least = true-int_le (x -ℤ y) (pos 0) t in int_eq-true x y (omega (arith, ints)))
        (λ t. let same = true-int_eq x y t in int_le-true (x -ℤ y) (pos 0) (omega (arith, ints))))

    pub equal-value : (a b : CaseTree) → Gives (equal_tree base k a b) (Has v (truth (int_eq (tree_value v a) (tree_value v b))))
    equal-value a b =
        let Q = Has v (truth (int_eq (tree_value v a) (tree_value v b))) in
        then_gives (Has v (tree_value v a -ℤ tree_value v b)) Q (tree_difference base k a b) _ (tree_difference-value v base meets k h a b)
        (λ d e. then_gives (Has v (truth (int_le (tree_value v d) (negsuc 0)))) Q (at_most_tree base k d (negsuc 0)) _ (at_most-value (negsuc 0) k h d)
        (λ below f. then_gives (Has v (truth (int_le (tree_value v d) (pos 0)))) Q (at_most_tree base k d (pos 0)) _ (at_most-value (pos 0) k h d)
        (λ upto g. gives_weaker Q _ (choose-value v base meets k h below (number_tree (pos 0)) upto)
        (λ t c.
        excluded _ _ _ (int_le (tree_value v d) (negsuc 0)) (subst (λ y. Chosen (tree_value v below) y (tree_value v upto) (tree_value v t)) (constant-value (pos 0)) c) f
        ∙ ap (λ x. cond (int_le (tree_value v d) (negsuc 0)) (pos 0) x) g
        ∙ ap (λ x. cond (int_le x (negsuc 0)) (pos 0) (truth (int_le x (pos 0)))) e
        ∙ two_tests (tree_value v a) (tree_value v b)))))

    in_between : (lo hi x : ℤ) → cond (int_le x (lo -ℤ pos 1)) (pos 0) (truth (int_le x hi)) ≡ truth (within lo hi x)
    in_between lo hi x =
        one_excludes (int_le x (lo -ℤ pos 1)) (int_le x hi) (within lo hi x)
        (λ e. let less = true-int_le x (lo -ℤ pos 1) e in
        and_left (int_le lo x) (int_le x hi) (false_from_ne_true (int_le lo x) (λ t. let least = true-int_le lo x t in absurd (omega (arith, ints)))))
        (λ e. let more = of_not_le x (lo -ℤ pos 1) e in
        let low = int_le-true lo x (omega (arith, ints)) in
        sym (ap (λ b. b && int_le x hi) low))

    pub between-value : (lo hi : ℤ) (t : CaseTree) → Gives (between_tree base k t lo hi) (Has v (truth (within lo hi (tree_value v t))))
    between-value lo hi t =
        let Q = Has v (truth (within lo hi (tree_value v t))) in
        then_gives (Has v (truth (int_le (tree_value v t) (lo -ℤ pos 1)))) Q (at_most_tree base k t (lo -ℤ pos 1)) _ (at_most-value (lo -ℤ pos 1) k h t)
        (λ below f. then_gives (Has v (truth (int_le (tree_value v t) hi))) Q (at_most_tree base k t hi) _ (at_most-value hi k h t)
        (λ upto g. gives_weaker Q _ (choose-value v base meets k h below (number_tree (pos 0)) upto)
        (λ r c.
        excluded _ _ _ (int_le (tree_value v t) (lo -ℤ pos 1)) (subst (λ y. Chosen (tree_value v below) y (tree_value v upto) (tree_value v r)) (constant-value (pos 0)) c) f
        ∙ ap (λ x. cond (int_le (tree_value v t) (lo -ℤ pos 1)) (pos 0) x) g
        ∙ in_between lo hi (tree_value v t))))

    -- 1 less the condition
    pub opposite-value : (c : CaseTree) → Gives (opposite_tree base k c) (Has v (pos 1 -ℤ tree_value v c))
    opposite-value c =
        gives_weaker (Has v (pos 1 -ℤ tree_value v c)) _ (choose-value v base meets k h c (number_tree (pos 0)) (number_tree (pos 1)))
        (λ t is. by t is is.truth) where
          by : (t : CaseTree) → Chosen (tree_value v c) (tree_value v (number_tree (pos 0))) (tree_value v (number_tree (pos 1))) (tree_value v t) → (tree_value v c ≡ pos 1) ⊎ (tree_value v c ≡ pos 0) → tree_value v t ≡ pos 1 -ℤ tree_value v c
          by t is (inl e) = is.one e ∙ constant-value (pos 0) ∙ sym (ap (λ x. pos 1 -ℤ x) e)
          by t is (inr e) = is.none e ∙ constant-value (pos 1) ∙ sym (ap (λ x. pos 1 -ℤ x) e)

    -- ---- reading

    two_numbers : (a : SumAtom) (e : Interval) → AtomWithin v a e → e.lo +ℤ pos 1 ≡ e.hi → either v (only_atom a) e.lo (number_tree e.lo) (number_tree e.hi) ≡ atom_value v a
    two_numbers a e w two =
        let same = alone-value v a in
        holds_cond (λ z. z ≡ atom_value v a) (int_le (terms_value v (only_atom a)) e.lo) (tree_value v (number_tree e.lo)) (tree_value v (number_tree e.hi))
        (λ t. let least = true-int_le (terms_value v (only_atom a)) e.lo t in constant-value e.lo ∙ omega (arith, ints, w.low))
        (λ t. let above = of_not_le (terms_value v (only_atom a)) e.lo t in constant-value e.hi ∙ omega (arith, ints, w.high))

    pub read_tree-value : (a : SumAtom) → Gives (read_tree base k a) (Has v (atom_value v a))
    read_tree-value a =
        let Q = Has v (atom_value v a) in
        then_gives (AtomWithin v a) Q (atom_ends base k a) _ (atom_ends-holds v base k meets h a)
        (λ e w. gives_cond Q (int_eq (e.lo +ℤ pos 1) e.hi) _ _
        (λ t. gives_weaker Q _ (case_of-value v base k meets h (only_atom a) e.lo (number_tree e.lo) (number_tree e.hi)) (λ r f. f ∙ two_numbers a e w (true-int_eq (e.lo +ℤ pos 1) e.hi t)))
        (λ t. gives_some Q _ (leaf-value v _ ∙ holds_cond (Is v (atom_value v a)) (int_eq e.lo e.hi) (number e.lo) (atom_sum a) (λ one. number-value v e.lo ∙ one_number e _ w one) (λ more. atom_sum-value v a))))

  -- the cell at an index, as a relation of the values
  IsCell : ℕ → ℤ → ℤ → Type 0
  IsCell i x z = z ≡ v.cell i x

  cell_leaf-value : (i : ℕ) (k : Known) → Holds v k → (s : LinearSum) → Gives (cell_leaf base i k s) (λ t. IsCell i (sum_value v s) (tree_value v t))
  unfolding IsCell atom_value
  cell_leaf-value i k h s = read_tree-value k h (CellAtom i s.terms s.constant)

  pub read_cell-value : (i : ℕ) (k : Known) → Holds v k → (t : CaseTree) → Gives (read_cell base i k t) (Has v (v.cell i (tree_value v t)))
  unfolding IsCell Goes
  read_cell-value i k h t = spliced-value (cell_leaf base i) (IsCell i) (cell_leaf-value i) t k h

  -- ---- learned, and the ends of trees

  pub is_zero-value : (t : CaseTree) → is_zero_tree t ≡ true → tree_value v t ≡ pos 0
  is_zero-value (Leaf s) e = leaf-value v s ∙ ap (sum_value v) (true-same_sum s (number (pos 0)) e) ∙ number-value v (pos 0)
  is_zero-value (Case p m low high) e = cc

  at_most_there : (p : SumTerms) (m : ℤ) (low high : CaseTree) → tree_value v high ≡ pos 0 → (tree_value v (Case p m low high) ≡ pos 0 → ⊥) → terms_value v p ≤ℤ m
  at_most_there p m low high none so = by_sides p m (λ least. least) (λ above. absurd (so (sym (high-value p m low high above) ∙ none)))

  above_there : (p : SumTerms) (m : ℤ) (low high : CaseTree) → tree_value v low ≡ pos 0 → (tree_value v (Case p m low high) ≡ pos 0 → ⊥) → m <ℤ terms_value v p
  above_there p m low high none so = by_sides p m (λ least. absurd (so (sym (low-value p m low high least) ∙ none))) (λ above. above)

  -- what is learned of a condition holds wherever the condition isn't 0
  pub learned-value : (t : CaseTree) (k : Known) → Holds v k → (tree_value v t ≡ pos 0 → ⊥) → Gives (learned base k t) (Holds v)
  unfolding learned
  learned-value (Leaf s) k h so = gives_some (Holds v) k h
  learned-value (Case p m low high) k h so =
      let Q = Holds v in
      then_gives (TermsWithin v p) Q (primitive_ends base k p) _ (primitive_ends-holds v base k meets h p)
      (λ e w. gives_cond Q (int_le e.hi m) _ _
      (λ t. learned-value low k h (λ z. so (sym (low-value p m low high (ends_low p m e w t)) ∙ z)))
      (λ t. gives_cond Q (int_lt m e.lo) _ _
      (λ t. learned-value high k h (λ z. so (sym (high-value p m low high (ends_high p m e w t)) ∙ z)))
      (λ t. gives_cond Q (is_zero_tree high) _ _
      (λ t. let least = at_most_there p m low high (is_zero-value high t) so in
      then_gives Q Q (known_most base k p m) _ (known_most-holds v base k meets h p m least)
      (λ under holds. learned-value low under holds (λ z. so (sym (low-value p m low high least) ∙ z))))
      (λ t. gives_cond Q (is_zero_tree low) _ _
      (λ t. let above = above_there p m low high (is_zero-value low t) so in
      then_gives Q Q (known_above base k p m) _ (known_above-holds v base k meets h p m above)
      (λ over holds. learned-value high over holds (λ z. so (sym (high-value p m low high above) ∙ z))))
      (λ t. gives_some Q k h)))))

  both_ends-left : (e f : Interval) (x : ℤ) → Within e x → Within (both_ends e f) x
  both_ends-left e f x w = record { low = omega (arith, ints, clamps, w.low); high = omega (arith, ints, clamps, w.high) }

  both_ends-right : (e f : Interval) (x : ℤ) → Within f x → Within (both_ends e f) x
  both_ends-right e f x w = record { low = omega (arith, ints, clamps, w.low); high = omega (arith, ints, clamps, w.high) }

  -- a tree between ends
  abbrev pub TreeWithin : CaseTree → Interval → Type 0
  TreeWithin t e = Within e (tree_value v t)

  -- the value of a tree lies between its ends
  pub tree_ends-holds : (t : CaseTree) (k : Known) → Holds v k → Gives (tree_ends base k t) (TreeWithin t)
  unfolding tree_ends
  tree_ends-holds (Leaf s) k h = gives_weaker (TreeWithin (Leaf s)) _ (sum_ends-holds v base k meets h s) (λ e w. subst (Within e) (sym (leaf-value v s)) w)
  tree_ends-holds (Case p m low high) k h =
      let Q = TreeWithin (Case p m low high) in
      then_gives (TermsWithin v p) Q (primitive_ends base k p) _ (primitive_ends-holds v base k meets h p)
      (λ e w. gives_cond Q (int_le e.hi m) _ _
      (λ t. gives_weaker Q _ (tree_ends-holds low k h) (λ f u. subst (Within f) (low-value p m low high (ends_low p m e w t)) u))
      (λ t. gives_cond Q (int_lt m e.lo) _ _
      (λ t. gives_weaker Q _ (tree_ends-holds high k h) (λ f u. subst (Within f) (high-value p m low high (ends_high p m e w t)) u))
      (λ t. then_gives (λ u. terms_value v p ≤ℤ m → Holds v u) Q (known_most base k p m) _ (gives_if (Holds v) _ (known_most-holds v base k meets h p m))
      (λ under lowly. then_gives (λ u. m <ℤ terms_value v p → Holds v u) Q (known_above base k p m) _ (gives_if (Holds v) _ (known_above-holds v base k meets h p m))
      (λ over highly. then_gives (λ a. terms_value v p ≤ℤ m → TreeWithin low a) Q (tree_ends base under low) _ (gives_if (TreeWithin low) _ (λ least. tree_ends-holds low under (lowly least)))
      (λ a is_a. then_gives (λ b. m <ℤ terms_value v p → TreeWithin high b) Q (tree_ends base over high) _ (gives_if (TreeWithin high) _ (λ above. tree_ends-holds high over (highly above)))
      (λ b is_b. gives_some Q _ (by_sides p m
      (λ least. subst (Within (both_ends a b)) (low-value p m low high least) (both_ends-left a b _ (is_a least)))
      (λ above. subst (Within (both_ends a b)) (high-value p m low high above) (both_ends-right a b _ (is_b above)))))))))))
