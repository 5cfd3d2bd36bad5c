-- A tree is joined by as many steps as there are cases: more steps change nothing.
use Rattle.std.proofs.Common.{◌≡◌, ℕ, zero, suc, ◌+◌, ◌≤◌, ◌<◌, ℤ, List, [], ◌∷◌, map, Option, Some, None, Bool, true, false, ◌&&◌, cond, refl, ap₂, sym, subst, arith}
use Rattle.std.specs.Ordering.{int_eq}
use Rattle.std.proofs.lemmas.Bool.{and_from, eq-eqb}
use Rattle.sig_base.proofs.Tests.{int_eq-true}
use Rattle.std.specs.Prelude.{int_le, int_lt}
use Rattle.tree_laws.specs.LinearSums.{Operation, Mul, Div, Rem, SumAtom, VariableAtom, ReceivedAtom, WordAtom, ClockAtom, CellAtom, OperationAtom, SumTerms, NoTerms, Term, LinearSum, same_operation, same_atom, same_terms}
use Rattle.tree_laws.specs.Limits.{◌>>=◌, each_some}
use Rattle.tree_laws.specs.SumEnds.{Ground, Known, primitive_ends, known_most, known_above}
use Rattle.tree_laws.specs.Trees.{CaseTree, Leaf, Case, cases_in, tree_decided, case_of}
use Rattle.tree_laws.specs.TreesJoined.{cases, Heads, Leaves, First, OfLeaves, Counted, with_leaf, with_case, case_before, heads, lower, upper, joined_at, joined_within}
use Rattle.tree_laws.proofs.Gives.{Gives, gives_some, then_gives, gives_weaker, gives_cond, holds_cond}

-- ---- each is the same as itself

same_operation-itself : (p : Operation) → same_operation p p ≡ true
same_operation-itself Mul = refl
same_operation-itself Div = refl
same_operation-itself Rem = refl

mutual
  unfolding same_atom same_terms

  pub same_atom-itself : (a : SumAtom) → same_atom a a ≡ true
  same_atom-itself (VariableAtom i) = eq-eqb i i refl
  same_atom-itself (ReceivedAtom i) = eq-eqb i i refl
  same_atom-itself (WordAtom i) = eq-eqb i i refl
  same_atom-itself ClockAtom = refl
  same_atom-itself (CellAtom i ts c) = and_from _ _ (eq-eqb i i refl) (and_from _ _ (same_terms-itself ts) (int_eq-true c c refl))
  same_atom-itself (OperationAtom op ts c us d) = and_from _ _ (same_operation-itself op) (and_from _ _ (same_terms-itself ts) (and_from _ _ (int_eq-true c c refl) (and_from _ _ (same_terms-itself us) (int_eq-true d d refl))))

  pub same_terms-itself : (ts : SumTerms) → same_terms ts ts ≡ true
  same_terms-itself NoTerms = refl
  same_terms-itself (Term c a ts) = and_from _ _ (int_eq-true c c refl) (and_from _ _ (same_atom-itself a) (same_terms-itself ts))

-- ---- fewer cases

-- two steps that are followed by the same
same_after : {A B : Type 0} (P : A → Type 0) (o : Option A) (f g : A → Option B) → Gives o P → ((x : A) → P x → f x ≡ g x) → (o >>= f) ≡ (o >>= g)
same_after P (Some x) f g first same = same x (first.gives x refl)
same_after P None f g first same = refl

case-cases : (p : SumTerms) (m : ℤ) (low high : CaseTree) → cases_in (Case p m low high) ≡ suc (cases_in low + cases_in high)
unfolding cases_in
case-cases p m low high = refl

module _ (base : Ground) where
  module _ (k : Known) where
    -- no more cases than so many
    AtMostCases : ℕ → CaseTree → Type 0
    AtMostCases n t = cases_in t ≤ n

    decided-fewer : (t : CaseTree) → Gives (tree_decided base k t) (AtMostCases (cases_in t))
    unfolding tree_decided AtMostCases
    decided-fewer (Leaf s) = gives_some _ _ (omega arith)
    decided-fewer (Case p m low high) =
        let Q = AtMostCases (cases_in (Case p m low high)) in
        let all = case-cases p m low high in
        then_gives (λ e. Unit {0}) Q (primitive_ends base k p) _ (record { gives = λ e is. tt })
        (λ e w. gives_cond Q (int_le e.hi m) _ _
        (λ t. gives_weaker Q _ (decided-fewer low) (λ u few. omega arith))
        (λ t. gives_cond Q (int_lt m e.lo) _ _
        (λ t. gives_weaker Q _ (decided-fewer high) (λ u few. omega arith))
        (λ t. gives_some Q _ (omega arith))))

    each_decided-fewer : (ts : List CaseTree) → Gives (each_some (tree_decided base k) ts) (λ ds. cases ds ≤ cases ts)
    unfolding cases AtMostCases
    each_decided-fewer [] = gives_some _ _ (omega arith)
    each_decided-fewer (t ∷ ts) =
        then_gives (AtMostCases (cases_in t)) (λ ds. cases ds ≤ cases (t ∷ ts)) (tree_decided base k t) _ (decided-fewer t)
        (λ d one. then_gives (λ ds. cases ds ≤ cases ts) (λ ds. cases ds ≤ cases (t ∷ ts)) (each_some (tree_decided base k) ts) _ (each_decided-fewer ts)
        (λ ds more. gives_some _ _ (omega arith)))

  lower-fewer : (p : SumTerms) (m : ℤ) (t : CaseTree) → cases_in (lower base p m t) ≤ cases_in t
  lower-fewer p m (Leaf s) = omega arith
  lower-fewer p m (Case q n low high) = let all = case-cases q n low high in holds_cond (λ u. cases_in u ≤ cases_in (Case q n low high)) (same_terms p q && int_eq m n) low _ (λ e. omega arith) (λ e. omega arith)

  upper-fewer : (p : SumTerms) (m : ℤ) (t : CaseTree) → cases_in (upper base p m t) ≤ cases_in t
  upper-fewer p m (Leaf s) = omega arith
  upper-fewer p m (Case q n low high) = let all = case-cases q n low high in holds_cond (λ u. cases_in u ≤ cases_in (Case q n low high)) (same_terms p q && int_eq m n) high _ (λ e. omega arith) (λ e. omega arith)

  itself-there : (p : SumTerms) (m : ℤ) → (same_terms p p && int_eq m m) ≡ true
  itself-there p m = and_from _ _ (same_terms-itself p) (int_eq-true m m refl)

  lower-less : (p : SumTerms) (m : ℤ) (low high : CaseTree) → cases_in (lower base p m (Case p m low high)) < cases_in (Case p m low high)
  lower-less p m low high = let all = case-cases p m low high in subst (λ b. cases_in (cond b low (Case p m low high)) < cases_in (Case p m low high)) (sym (itself-there p m)) (omega arith)

  upper-less : (p : SumTerms) (m : ℤ) (low high : CaseTree) → cases_in (upper base p m (Case p m low high)) < cases_in (Case p m low high)
  upper-less p m low high = let all = case-cases p m low high in subst (λ b. cases_in (cond b high (Case p m low high)) < cases_in (Case p m low high)) (sym (itself-there p m)) (omega arith)

  all_lower-fewer : (p : SumTerms) (m : ℤ) (ts : List CaseTree) → cases (map (lower base p m) ts) ≤ cases ts
  unfolding cases
  all_lower-fewer p m [] = omega arith
  all_lower-fewer p m (t ∷ ts) = let one = lower-fewer p m t in let more = all_lower-fewer p m ts in omega arith

  all_upper-fewer : (p : SumTerms) (m : ℤ) (ts : List CaseTree) → cases (map (upper base p m) ts) ≤ cases ts
  unfolding cases
  all_upper-fewer p m [] = omega arith
  all_upper-fewer p m (t ∷ ts) = let one = upper-fewer p m t in let more = all_upper-fewer p m ts in omega arith

  -- where a case stands first, both sides have fewer cases
  record Fewer (ts : List CaseTree) (p : SumTerms) (m : ℤ) : Type 0 where
    low : cases (map (lower base p m) ts) < cases ts
    high : cases (map (upper base p m) ts) < cases ts

  FewerBehind : List CaseTree → Heads → Type 0
  FewerBehind ts (Leaves ss) = Unit {0}
  FewerBehind ts (First p m) = Fewer ts p m

  behind_leaf : (s : LinearSum) (ts : List CaseTree) (q : Heads) → FewerBehind ts q → FewerBehind (Leaf s ∷ ts) (with_leaf base s q)
  unfolding FewerBehind cases
  behind_leaf s ts (Leaves ss) few = tt
  behind_leaf s ts (First p m) few = record { low = omega (arith, few.low); high = omega (arith, few.high) }

  this_first : (p : SumTerms) (m : ℤ) (low high : CaseTree) (ts : List CaseTree) → Fewer (Case p m low high ∷ ts) p m
  unfolding cases
  this_first p m low high ts = record {
    low = omega (arith, lower-less p m low high, all_lower-fewer p m ts);
    high = omega (arith, upper-less p m low high, all_upper-fewer p m ts);
  }

  other_first : (q : SumTerms) (n : ℤ) (t : CaseTree) (ts : List CaseTree) → Fewer ts q n → Fewer (t ∷ ts) q n
  unfolding cases
  other_first q n t ts few = record {
    low = omega (arith, few.low, lower-fewer q n t);
    high = omega (arith, few.high, upper-fewer q n t);
  }

  behind_case : (p : SumTerms) (m : ℤ) (low high : CaseTree) (ts : List CaseTree) (q : Heads) → FewerBehind ts q → FewerBehind (Case p m low high ∷ ts) (with_case base p m q)
  unfolding FewerBehind
  behind_case p m low high ts (Leaves ss) few = this_first p m low high ts
  behind_case p m low high ts (First q n) few = first (case_before base q n p m) where
    first : (b : Bool) → FewerBehind (Case p m low high ∷ ts) (cond b (First q n) (First p m))
    first true = other_first q n (Case p m low high) ts few
    first false = this_first p m low high ts

  heads-fewer : (ts : List CaseTree) → FewerBehind ts (heads base ts)
  unfolding heads FewerBehind
  heads-fewer [] = tt
  heads-fewer (Leaf s ∷ ts) = behind_leaf s ts (heads base ts) (heads-fewer ts)
  heads-fewer (Case p m low high ∷ ts) = behind_case p m low high ts (heads base ts) (heads-fewer ts)

  module _ (f : OfLeaves) where
    joined_at-same : (d e : Known → List CaseTree → Option Counted) (k : Known) (ds : List CaseTree) (q : Heads) → FewerBehind ds q
        → ((k : Known) (ts : List CaseTree) → cases ts < cases ds → d k ts ≡ e k ts) → joined_at base f d k ds q ≡ joined_at base f e k ds q
    unfolding FewerBehind
    joined_at-same d e k ds (Leaves ss) few same = refl
    joined_at-same d e k ds (First p m) few same =
        same_after (λ u. Unit {0}) (known_most base k p m) _ _ (record { gives = λ x is. tt })
        (λ under u. same_after (λ u. Unit {0}) (known_above base k p m) _ _ (record { gives = λ x is. tt })
        (λ over u. ap₂ (λ (x y : Option Counted). x >>= λ a. y >>= λ b. case_of base k p m a.tree b.tree >>= λ t. Some (record { tree = t; leaves = a.leaves + b.leaves }))
        (same under (map (lower base p m) ds) few.low) (same over (map (upper base p m) ds) few.high)))

    pub enough_steps : (n m : ℕ) (k : Known) (ts : List CaseTree) → cases ts < n → cases ts < m → joined_within base f n k ts ≡ joined_within base f m k ts
    unfolding joined_within
    enough_steps zero m k ts p q = absurd (omega arith)
    enough_steps (suc n) zero k ts p q = absurd (omega arith)
    enough_steps (suc n) (suc m) k ts p q =
        same_after (λ ds. cases ds ≤ cases ts) (each_some (tree_decided base k) ts) _ _ (each_decided-fewer k ts)
        (λ ds few. joined_at-same (joined_within base f n) (joined_within base f m) k ds (heads base ds) (heads-fewer ds)
        (λ k us less_tree. enough_steps n m k us (omega arith) (omega arith)))

    pub steps_enough : (n : ℕ) (k : Known) (ts : List CaseTree) → cases ts < n → joined_within base f n k ts ≡ joined_within base f (suc (cases ts)) k ts
    steps_enough n k ts p = enough_steps n (suc (cases ts)) k ts p (omega arith)
