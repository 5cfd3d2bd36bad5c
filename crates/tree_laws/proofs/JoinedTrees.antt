-- Joined trees have the value that a function of their values gives.
use Rattle.std.proofs.Common.{◌≡◌, ℕ, zero, suc, ℤ, pos, ◌+ℤ◌, ◌-ℤ◌, ◌≤ℤ◌, ◌<ℤ◌, int_le, List, [], ◌∷◌, map, Option, Bool, true, false, ◌&&◌, cond, ◌⊎◌, inl, inr, refl, ap, ap₂, sym, ◌∙◌, subst, arith}
use Rattle.std.specs.Ordering.{int_eq}
use Rattle.std.proofs.lemmas.Int.{ints}
use Rattle.sig_base.proofs.Tests.{true-int_le}
use Rattle.model_core.proofs.BothTrue.{and_first, and_second}
use Rattle.bound_laws.proofs.Soundness.Ends.{of_not_le}
use Rattle.tree_laws.specs.LinearSums.{Operation, SumTerms, LinearSum, number, same_terms, same_sum}
use Rattle.tree_laws.specs.SumValues.{Valuation, operation_value, terms_value, sum_value}
use Rattle.tree_laws.specs.Limits.{each_some, leaves_fit}
use Rattle.tree_laws.specs.SumEnds.{Ground, Known, known_most, known_above}
use Rattle.tree_laws.specs.Meaning.{Meets, Holds}
use Rattle.tree_laws.specs.SumSettled.{added, subtracted, operation, sum_settled}
use Rattle.tree_laws.specs.Trees.{CaseTree, Leaf, Case, tree_value, tree_decided, case_of}
use Rattle.tree_laws.specs.TreesJoined.{cases, Heads, Leaves, First, OfLeaves, Counted, with_leaf, with_case, case_before, heads, lower, upper, joined_leaves, joined_at, joined_within, trees_joined, of_two_sums, tree_sum, tree_difference, tree_operation, chosen, chosen_leaf_of, choose, itself, renewed}
use Rattle.tree_laws.proofs.Gives.{Gives, gives_some, gives_none, then_gives, gives_cond, holds_cond}
use Rattle.tree_laws.proofs.SameSums.{true-int_eq, true-same_terms, true-same_sum}
use Rattle.tree_laws.proofs.EndsHold.{known_most-holds, known_above-holds}
use Rattle.tree_laws.proofs.SettledSums.{Is, number-value, added-value, subtracted-value, operation-value, settled-value}
use Rattle.tree_laws.proofs.CasesOfTrees.{either, Has, case-value, leaf-value, either-low, either-high, decided-value, case_of-value}

-- each gives what has the same number
each-numbers : {A B : Type 0} (x : A → ℤ) (y : B → ℤ) (f : A → Option B) → ((a : A) → Gives (f a) (λ b. y b ≡ x a)) → (as_ : List A) → Gives (each_some f as_) (λ bs. map y bs ≡ map x as_)
each-numbers x y f one [] = gives_some _ _ refl
each-numbers x y f one (a ∷ as_) =
    then_gives (λ b. y b ≡ x a) (λ bs. map y bs ≡ map x (a ∷ as_)) (f a) _ (one a)
    (λ b e. then_gives (λ bs. map y bs ≡ map x as_) (λ bs. map y bs ≡ map x (a ∷ as_)) (each_some f as_) _ (each-numbers x y f one as_)
    (λ bs g. gives_some _ _ (ap₂ (λ h t. h ∷ t) e g)))

-- what is given only under a premise
pub gives_if : {A : Type 0} {R : Type 0} (P : A → Type 0) (o : Option A) → (R → Gives o P) → Gives o (λ x. R → P x)
gives_if P o g = record { gives = λ x e r. (g r).gives x e }

pub one_not_none : (c : ℤ) → c ≡ pos 1 → c ≡ pos 0 → ⊥
one_not_none c e f = omega (arith, ints)

-- the second where the first is 1, and the third where it is 0; the first is one of them
pub record Chosen (c x y z : ℤ) : Type 0 where
  pub one : c ≡ pos 1 → z ≡ x
  pub none : c ≡ pos 0 → z ≡ y
  pub truth : c ≡ pos 1 ⊎ c ≡ pos 0

module _ (v : Valuation) (base : Ground) where
  -- what stands first: where it is leaves alone, they have the values of the trees
  LeavesAre : List CaseTree → Heads → Type 0
  LeavesAre ts (Leaves ss) = map (sum_value v) ss ≡ map (tree_value v) ts
  LeavesAre ts (First p m) = Unit {0}

  with_leaf-are : (s : LinearSum) (ts : List CaseTree) (q : Heads) → LeavesAre ts q → LeavesAre (Leaf s ∷ ts) (with_leaf base s q)
  unfolding LeavesAre
  with_leaf-are s ts (Leaves ss) e = ap₂ (λ h t. h ∷ t) (sym (leaf-value v s)) e
  with_leaf-are s ts (First p m) e = tt

  no_leaves-are : (ts : List CaseTree) (p : SumTerms) (m : ℤ) (q : Heads) → LeavesAre ts (with_case base p m q)
  unfolding LeavesAre
  no_leaves-are ts p m (Leaves ss) = tt
  no_leaves-are ts p m (First q n) = first (case_before base q n p m) where
    first : (b : Bool) → LeavesAre ts (cond b (First q n) (First p m))
    first true = tt
    first false = tt

  heads-are : (ts : List CaseTree) → LeavesAre ts (heads base ts)
  unfolding heads LeavesAre
  heads-are [] = refl
  heads-are (Leaf s ∷ ts) = with_leaf-are s ts (heads base ts) (heads-are ts)
  heads-are (Case p m low high ∷ ts) = no_leaves-are (Case p m low high ∷ ts) p m (heads base ts)

  lower-value : (p : SumTerms) (m : ℤ) → terms_value v p ≤ℤ m → (t : CaseTree) → tree_value v (lower base p m t) ≡ tree_value v t
  lower-value p m least (Leaf s) = refl
  lower-value p m least (Case q n low high) =
      holds_cond (Has v (tree_value v (Case q n low high))) (same_terms p q && int_eq m n) low (Case q n low high)
      (λ e.
      let list = ap (terms_value v) (true-same_terms p q (and_first (same_terms p q) _ e)) in
      let same = true-int_eq m n (and_second (same_terms p q) _ e) in
      either-low v q n low high (omega (arith, ints)) ∙ sym (case-value v q n low high))
      (λ e. refl)

  upper-value : (p : SumTerms) (m : ℤ) → m <ℤ terms_value v p → (t : CaseTree) → tree_value v (upper base p m t) ≡ tree_value v t
  upper-value p m above (Leaf s) = refl
  upper-value p m above (Case q n low high) =
      holds_cond (Has v (tree_value v (Case q n low high))) (same_terms p q && int_eq m n) high (Case q n low high)
      (λ e.
      let list = ap (terms_value v) (true-same_terms p q (and_first (same_terms p q) _ e)) in
      let same = true-int_eq m n (and_second (same_terms p q) _ e) in
      either-high v q n low high (omega (arith, ints)) ∙ sym (case-value v q n low high))
      (λ e. refl)

  map-values : (f : CaseTree → CaseTree) → ((t : CaseTree) → tree_value v (f t) ≡ tree_value v t) → (ts : List CaseTree) → map (tree_value v) (map f ts) ≡ map (tree_value v) ts
  map-values f same [] = refl
  map-values f same (t ∷ ts) = ap₂ (λ h t. h ∷ t) (same t) (map-values f same ts)

  -- a function of leaves gives a sum whose value is this function of their values
  pub record Computes (f : OfLeaves) (F : List ℤ → ℤ → Type 0) : Type 0 where
    pub computes : (k : Known) → Holds v k → (ss : List LinearSum) → Gives (f k ss) (λ s. F (map (sum_value v) ss) (sum_value v s))

  -- a counted tree whose value is this one of these
  CountedIs : (List ℤ → ℤ → Type 0) → List ℤ → Counted → Type 0
  CountedIs F xs c = F xs (tree_value v c.tree)

  module _ (meets : Meets base v) (f : OfLeaves) (F : List ℤ → ℤ → Type 0) (computes : Computes f F) where
    joined_leaves-value : (k : Known) → Holds v k → (ss : List LinearSum) → Gives (joined_leaves base f k ss) (CountedIs F (map (sum_value v) ss))
    unfolding CountedIs
    joined_leaves-value k h ss =
        let Q = CountedIs F (map (sum_value v) ss) in
        then_gives (λ ts. map (sum_value v) ts ≡ map (sum_value v) ss) Q (each_some (sum_settled base k) ss) _ (each-numbers (sum_value v) (sum_value v) (sum_settled base k) (settled-value v base k meets h) ss)
        (λ ts e. then_gives (λ s. F (map (sum_value v) ts) (sum_value v s)) Q (f k ts) _ (computes.computes k h ts)
        (λ r g. then_gives (Is v (sum_value v r)) Q (sum_settled base k r) _ (settled-value v base k meets h r)
        (λ s i. gives_some Q _ (subst (λ xs. F xs (tree_value v (Leaf s))) e (subst (F (map (sum_value v) ts)) (sym (leaf-value v s ∙ i)) g)))))

    module _ (deeper : Known → List CaseTree → Option Counted) (below : (k : Known) → Holds v k → (ts : List CaseTree) → Gives (deeper k ts) (CountedIs F (map (tree_value v) ts))) where
      -- from the values of both sides that of the case
      of_sides : (p : SumTerms) (m : ℤ) (ds : List CaseTree) (a b : Counted) (t : CaseTree) (n : ℕ)
          → (terms_value v p ≤ℤ m → CountedIs F (map (tree_value v) (map (lower base p m) ds)) a)
          → (m <ℤ terms_value v p → CountedIs F (map (tree_value v) (map (upper base p m) ds)) b)
          → Has v (either v p m a.tree b.tree) t → CountedIs F (map (tree_value v) ds) (record { tree = t; leaves = n })
      unfolding CountedIs
      of_sides p m ds a b t n low high is =
          subst (F (map (tree_value v) ds)) (sym is)
          (holds_cond (F (map (tree_value v) ds)) (int_le (terms_value v p) m) (tree_value v a.tree) (tree_value v b.tree)
          (λ e. let least = true-int_le (terms_value v p) m e in subst (λ xs. F xs (tree_value v a.tree)) (map-values (lower base p m) (lower-value p m least) ds) (low least))
          (λ e. let above = of_not_le (terms_value v p) m e in subst (λ xs. F xs (tree_value v b.tree)) (map-values (upper base p m) (upper-value p m above) ds) (high above)))

      joined_at-value : (k : Known) → Holds v k → (ds : List CaseTree) (q : Heads) → LeavesAre ds q → Gives (joined_at base f deeper k ds q) (CountedIs F (map (tree_value v) ds))
      unfolding LeavesAre
      joined_at-value k h ds (Leaves ss) e = subst (λ xs. Gives (joined_leaves base f k ss) (CountedIs F xs)) e (joined_leaves-value k h ss)
      joined_at-value k h ds (First p m) e =
          let Q = CountedIs F (map (tree_value v) ds) in
          then_gives (λ u. terms_value v p ≤ℤ m → Holds v u) Q (known_most base k p m) _ (gives_if (Holds v) _ (known_most-holds v base k meets h p m))
          (λ under low. then_gives (λ u. m <ℤ terms_value v p → Holds v u) Q (known_above base k p m) _ (gives_if (Holds v) _ (known_above-holds v base k meets h p m))
          (λ over high. then_gives (λ a. terms_value v p ≤ℤ m → CountedIs F (map (tree_value v) (map (lower base p m) ds)) a) Q (deeper under (map (lower base p m) ds)) _
          (gives_if (CountedIs F (map (tree_value v) (map (lower base p m) ds))) _ (λ least. below under (low least) (map (lower base p m) ds)))
          (λ a is_a. then_gives (λ b. m <ℤ terms_value v p → CountedIs F (map (tree_value v) (map (upper base p m) ds)) b) Q (deeper over (map (upper base p m) ds)) _
          (gives_if (CountedIs F (map (tree_value v) (map (upper base p m) ds))) _ (λ above. below over (high above) (map (upper base p m) ds)))
          (λ b is_b. then_gives (Has v (either v p m a.tree b.tree)) Q (case_of base k p m a.tree b.tree) _ (case_of-value v base k meets h p m a.tree b.tree)
          (λ t is_t. gives_some Q _ (of_sides p m ds a b t _ is_a is_b is_t))))))

    joined_within-value : (n : ℕ) (k : Known) → Holds v k → (ts : List CaseTree) → Gives (joined_within base f n k ts) (CountedIs F (map (tree_value v) ts))
    unfolding joined_within
    joined_within-value zero k h ts = gives_none _
    joined_within-value (suc n) k h ts =
        let Q = CountedIs F (map (tree_value v) ts) in
        then_gives (λ ds. map (tree_value v) ds ≡ map (tree_value v) ts) Q (each_some (tree_decided base k) ts) _ (each-numbers (tree_value v) (tree_value v) (tree_decided base k) (decided-value v base k meets h) ts)
        (λ ds e. subst (λ xs. Gives (joined_at base f (joined_within base f n) k ds (heads base ds)) (CountedIs F xs)) e
        (joined_at-value (joined_within base f n) (joined_within-value n) k h ds (heads base ds) (heads-are ds)))

    pub joined-value : (k : Known) → Holds v k → (ts : List CaseTree) → Gives (trees_joined base f k ts) (λ t. F (map (tree_value v) ts) (tree_value v t))
    unfolding CountedIs
    joined-value k h ts =
        let Q : CaseTree → Type 0 = λ t. F (map (tree_value v) ts) (tree_value v t) in
        then_gives (CountedIs F (map (tree_value v) ts)) Q (joined_within base f (suc (cases ts)) k ts) _ (joined_within-value (suc (cases ts)) k h ts)
        (λ r e. gives_cond Q (leaves_fit r.leaves) _ _ (λ few. gives_some Q r.tree e) (λ many. gives_none Q))

  -- ---- what is joined

  -- the value of two numbers, and nothing of others
  abbrev pub OfTwo : (ℤ → ℤ → ℤ) → List ℤ → ℤ → Type 0
  OfTwo g (x ∷ y ∷ []) z = z ≡ g x y
  OfTwo g xs z = Unit {0}

  abbrev pub OfThree : (ℤ → ℤ → ℤ → ℤ → Type 0) → List ℤ → ℤ → Type 0
  OfThree P (x ∷ y ∷ w ∷ []) z = P x y w z
  OfThree P xs z = Unit {0}

  abbrev pub OfOne : List ℤ → ℤ → Type 0
  OfOne (x ∷ []) z = z ≡ x
  OfOne xs z = Unit {0}

  two-computes : (g : ℤ → ℤ → ℤ) (f : Known → LinearSum → LinearSum → Option LinearSum) → ((k : Known) → Holds v k → (s t : LinearSum) → Gives (f k s t) (Is v (g (sum_value v s) (sum_value v t)))) → Computes (λ k. of_two_sums base (f k)) (OfTwo g)
  two-computes g f gives = record { computes = by } where
    by : (k : Known) → Holds v k → (ss : List LinearSum) → Gives (of_two_sums base (f k) ss) (λ s. OfTwo g (map (sum_value v) ss) (sum_value v s))
    by k h [] = gives_none _
    by k h (s ∷ []) = gives_none _
    by k h (s ∷ t ∷ []) = gives k h s t
    by k h (s ∷ t ∷ u ∷ ss) = gives_none _

  chosen-value : (c s t : LinearSum) → Gives (chosen base c s t) (λ r. Chosen (sum_value v c) (sum_value v s) (sum_value v t) (sum_value v r))
  chosen-value c s t =
      let Q : LinearSum → Type 0 = λ r. Chosen (sum_value v c) (sum_value v s) (sum_value v t) (sum_value v r) in
      gives_cond Q (same_sum c (number (pos 1))) _ _
      (λ e. let is = ap (sum_value v) (true-same_sum c (number (pos 1)) e) ∙ number-value v (pos 1) in
      gives_some Q s (record { one = λ i. refl; none = λ i. absurd (one_not_none (sum_value v c) is i); truth = inl is }))
      (λ e. gives_cond Q (same_sum c (number (pos 0))) _ _
      (λ e. let is = ap (sum_value v) (true-same_sum c (number (pos 0)) e) ∙ number-value v (pos 0) in
      gives_some Q t (record { one = λ i. absurd (one_not_none (sum_value v c) i is); none = λ i. refl; truth = inr is }))
      (λ e. gives_none Q))

  chosen-computes : Computes (λ k. chosen_leaf_of base) (OfThree Chosen)
  chosen-computes = record { computes = by } where
    by : (k : Known) → Holds v k → (ss : List LinearSum) → Gives (chosen_leaf_of base ss) (λ s. OfThree Chosen (map (sum_value v) ss) (sum_value v s))
    by k h [] = gives_none _
    by k h (s ∷ []) = gives_none _
    by k h (s ∷ t ∷ []) = gives_none _
    by k h (s ∷ t ∷ u ∷ []) = chosen-value s t u
    by k h (s ∷ t ∷ u ∷ w ∷ ss) = gives_none _

  itself-computes : Computes (λ k. itself base) OfOne
  itself-computes = record { computes = by } where
    by : (k : Known) → Holds v k → (ss : List LinearSum) → Gives (itself base ss) (λ s. OfOne (map (sum_value v) ss) (sum_value v s))
    by k h [] = gives_none _
    by k h (s ∷ []) = gives_some _ s refl
    by k h (s ∷ t ∷ ss) = gives_none _

  module _ (meets : Meets base v) (k : Known) (h : Holds v k) where
    pub tree_sum-value : (a b : CaseTree) → Gives (tree_sum base k a b) (Has v (tree_value v a +ℤ tree_value v b))
    tree_sum-value a b = joined-value meets _ (OfTwo (λ x y. x +ℤ y)) (two-computes (λ x y. x +ℤ y) (λ k. added base) (λ k h s t. added-value v base s t)) k h (a ∷ b ∷ [])

    pub tree_difference-value : (a b : CaseTree) → Gives (tree_difference base k a b) (Has v (tree_value v a -ℤ tree_value v b))
    tree_difference-value a b = joined-value meets _ (OfTwo (λ x y. x -ℤ y)) (two-computes (λ x y. x -ℤ y) (λ k. subtracted base) (λ k h s t. subtracted-value v base s t)) k h (a ∷ b ∷ [])

    pub tree_operation-value : (op : Operation) (a b : CaseTree) → Gives (tree_operation base op k a b) (Has v (operation_value op (tree_value v a) (tree_value v b)))
    tree_operation-value op a b = joined-value meets _ (OfTwo (operation_value op)) (two-computes (operation_value op) (λ k. operation base k op) (λ k h s t. operation-value v base k meets h op s t)) k h (a ∷ b ∷ [])

    pub choose-value : (c a b : CaseTree) → Gives (choose base k c a b) (λ t. Chosen (tree_value v c) (tree_value v a) (tree_value v b) (tree_value v t))
    choose-value c a b = joined-value meets _ (OfThree Chosen) chosen-computes k h (c ∷ a ∷ b ∷ [])

    pub renewed-value : (t : CaseTree) → Gives (renewed base k t) (Has v (tree_value v t))
    renewed-value t = joined-value meets _ OfOne itself-computes k h (t ∷ [])
