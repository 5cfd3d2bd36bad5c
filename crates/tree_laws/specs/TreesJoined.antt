-- Trees joined by a function of their leaves.
use Rattle.std.specs.Prelude.{ℕ, zero, suc, ◌+◌, ℤ, pos, int_lt, Bool, cond, ◌&&◌, List, [], ◌∷◌, map, Option, Some, None}
use Rattle.std.specs.Ordering.{int_eq}
use Rattle.tree_laws.specs.LinearSums.{Operation, SumTerms, LinearSum, number, same_terms, same_sum}
use Rattle.tree_laws.specs.Limits.{◌>>=◌, each_some, leaves_fit}
use Rattle.tree_laws.specs.SumEnds.{Ground, Known, known_most, known_above}
use Rattle.tree_laws.specs.SumSettled.{added, subtracted, operation, sum_settled}
use Rattle.tree_laws.specs.Trees.{CaseTree, Leaf, Case, cases_in, tree_decided, case_of}

-- what stands first in trees: leaves alone, or the least first case
pub data Heads : Type 0 where
  Leaves : List LinearSum → Heads
  First : SumTerms → ℤ → Heads

-- a function of leaves, under what is known
abbrev pub OfLeaves : Type 0
OfLeaves = Known → List LinearSum → Option LinearSum

pub record Counted : Type 0 where
  pub tree : CaseTree
  pub leaves : ℕ

-- how many cases there are in trees
unfoldable pub cases : List CaseTree → ℕ
cases [] = zero
cases (t ∷ ts) = cases_in t + cases ts

module _ (base : Ground) where
  -- cases are in the order of their lists, then of their numbers
  abbrev pub case_before : SumTerms → ℤ → SumTerms → ℤ → Bool
  case_before p m q n = cond (same_terms p q) (int_lt m n) (base.terms_before p q)

  abbrev pub with_leaf : LinearSum → Heads → Heads
  with_leaf s (Leaves ss) = Leaves (s ∷ ss)
  with_leaf s (First p m) = First p m

  abbrev pub with_case : SumTerms → ℤ → Heads → Heads
  with_case p m (Leaves ss) = First p m
  with_case p m (First q n) = cond (case_before q n p m) (First q n) (First p m)

  unfoldable pub heads : List CaseTree → Heads
  heads [] = Leaves []
  heads (Leaf s ∷ ts) = with_leaf s (heads ts)
  heads (Case p m low high ∷ ts) = with_case p m (heads ts)

  -- a tree where the list is at most m, and above m
  abbrev pub lower : SumTerms → ℤ → CaseTree → CaseTree
  lower p m (Leaf s) = Leaf s
  lower p m (Case q n low high) = cond (same_terms p q && int_eq m n) low (Case q n low high)

  abbrev pub upper : SumTerms → ℤ → CaseTree → CaseTree
  upper p m (Leaf s) = Leaf s
  upper p m (Case q n low high) = cond (same_terms p q && int_eq m n) high (Case q n low high)

  module _ (f : OfLeaves) where
    abbrev pub joined_leaves : Known → List LinearSum → Option Counted
    joined_leaves k ss = do
      ts ← each_some (sum_settled base k) ss
      r ← f k ts
      s ← sum_settled base k r
      Some (record { tree = Leaf s; leaves = 1 })

    -- decided trees, by what stands first in them; deeper is how their parts are joined
    abbrev pub joined_at : (Known → List CaseTree → Option Counted) → Known → List CaseTree → Heads → Option Counted
    joined_at deeper k ds (Leaves ss) = joined_leaves k ss
    joined_at deeper k ds (First p m) = do
      under ← known_most base k p m
      over ← known_above base k p m
      a ← deeper under (map (lower p m) ds)
      b ← deeper over (map (upper p m) ds)
      t ← case_of base k p m a.tree b.tree
      Some (record { tree = t; leaves = a.leaves + b.leaves })

    -- by n steps at most from any tree to its leaves
    unfoldable pub joined_within : ℕ → Known → List CaseTree → Option Counted
    joined_within zero k ts = None
    joined_within (suc n) k ts = do
      ds ← each_some (tree_decided base k) ts
      joined_at (joined_within n) k ds (heads ds)

    -- each step takes a case away, so one more than there are cases is enough
    abbrev pub trees_joined : Known → List CaseTree → Option CaseTree
    trees_joined k ts = do
      r ← joined_within (suc (cases ts)) k ts
      cond (leaves_fit r.leaves) (Some r.tree) None

  -- ---- what is joined

  abbrev pub of_two_sums : (LinearSum → LinearSum → Option LinearSum) → List LinearSum → Option LinearSum
  of_two_sums f (s ∷ t ∷ []) = f s t
  of_two_sums f ss = None

  abbrev pub tree_sum : Known → CaseTree → CaseTree → Option CaseTree
  tree_sum k a b = trees_joined (λ k. of_two_sums (added base)) k (a ∷ b ∷ [])

  abbrev pub tree_difference : Known → CaseTree → CaseTree → Option CaseTree
  tree_difference k a b = trees_joined (λ k. of_two_sums (subtracted base)) k (a ∷ b ∷ [])

  abbrev pub tree_operation : Operation → Known → CaseTree → CaseTree → Option CaseTree
  tree_operation op k a b = trees_joined (λ k. of_two_sums (operation base k op)) k (a ∷ b ∷ [])

  -- the second where the first is 1, and the third where it is 0; a first leaf that is another sum has no choice
  abbrev pub chosen : LinearSum → LinearSum → LinearSum → Option LinearSum
  chosen c s t = cond (same_sum c (number (pos 1))) (Some s) (cond (same_sum c (number (pos 0))) (Some t) None)

  abbrev pub chosen_leaf_of : List LinearSum → Option LinearSum
  chosen_leaf_of (c ∷ s ∷ t ∷ []) = chosen c s t
  chosen_leaf_of ss = None

  abbrev pub choose : Known → CaseTree → CaseTree → CaseTree → Option CaseTree
  choose k c a b = trees_joined (λ k. chosen_leaf_of) k (c ∷ a ∷ b ∷ [])

  abbrev pub itself : List LinearSum → Option LinearSum
  itself (s ∷ []) = Some s
  itself ss = None

  abbrev pub renewed : Known → CaseTree → Option CaseTree
  renewed k t = trees_joined (λ k. itself) k (t ∷ [])
