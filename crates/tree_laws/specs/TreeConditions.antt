-- Trees of trees, conditions, and what a condition teaches.
use Rattle.std.specs.Prelude.{ℕ, zero, suc, ◌/◌, ℤ, pos, negsuc, ◌+ℤ◌, ◌-ℤ◌, neg_ℤ, int_lt, int_le, Bool, false, cond, Option, Some, None}
use Rattle.std.specs.Ordering.{int_eq}
use Rattle.std.specs.Int.{int_min, int_max}
use Rattle.tree_laws.specs.LinearSums.{SumAtom, CellAtom, SumTerms, NoTerms, Term, LinearSum, number, atom_sum, only_atom, same_sum, divisor, primitive}
use Rattle.tree_laws.specs.Limits.{◌>>=◌, Interval}
use Rattle.tree_laws.specs.SumEnds.{Ground, Known, primitive_ends, atom_ends, sum_ends, known_most, known_above}
use Rattle.tree_laws.specs.SumSettled.{sum_settled}
use Rattle.tree_laws.specs.Trees.{CaseTree, Leaf, Case, case_of}
use Rattle.tree_laws.specs.TreesJoined.{choose, tree_difference}

abbrev pub number_tree : ℤ → CaseTree
number_tree n = Leaf (number n)

abbrev pub is_zero_tree : CaseTree → Bool
is_zero_tree (Leaf s) = same_sum s (number (pos 0))
is_zero_tree (Case p m low high) = false

-- the greatest whole number that is no greater than x / n
abbrev pub floor_div : ℤ → ℕ → ℤ
floor_div (pos a) n = pos (a / n)
floor_div (negsuc a) n = negsuc (a / n)

abbrev pub both_ends : Interval → Interval → Interval
both_ends e f = record { lo = int_min e.lo f.lo; hi = int_max e.hi f.hi }

-- a function of a leaf that gives a tree, under what is known
abbrev pub OfLeaf : Type 0
OfLeaf = Known → LinearSum → Option CaseTree

module _ (base : Ground) where
  module _ (f : OfLeaf) where
    unfoldable pub spliced : Known → CaseTree → Option CaseTree
    spliced k (Leaf s) = do
      t ← sum_settled base k s
      f k t
    spliced k (Case p m low high) = do
      e ← primitive_ends base k p
      cond (int_le e.hi m) (spliced k low) (cond (int_lt m e.lo) (spliced k high) (do
        under ← known_most base k p m
        over ← known_above base k p m
        a ← spliced under low
        b ← spliced over high
        choose base k (Case p m (number_tree (pos 1)) (number_tree (pos 0))) a b))

  -- whether `g * P` is at most d, by the sign of g. No sum has 0 for g
  abbrev pub at_most_by : ℤ → Known → SumTerms → ℤ → Option CaseTree
  at_most_by (pos zero) k p d = None
  at_most_by (pos (suc g)) k p d = case_of base k p (floor_div d (suc g)) (number_tree (pos 1)) (number_tree (pos 0))
  at_most_by (negsuc g) k p d = case_of base k p (neg_ℤ (floor_div d (suc g)) -ℤ pos 1) (number_tree (pos 0)) (number_tree (pos 1))

  abbrev pub at_most_leaf : ℤ → Known → LinearSum → Option CaseTree
  at_most_leaf n k s = elim s.terms [
    | NoTerms ↦ Some (number_tree (cond (int_le s.constant n) (pos 1) (pos 0)))
    | Term c a ts ↦ at_most_by (divisor s.terms) k (primitive s.terms) (n -ℤ s.constant)
  ]

  abbrev pub at_most_tree : Known → CaseTree → ℤ → Option CaseTree
  at_most_tree k t n = spliced (at_most_leaf n) k t

  abbrev pub less_tree : Known → CaseTree → CaseTree → Option CaseTree
  less_tree k a b = do
    d ← tree_difference base k a b
    at_most_tree k d (negsuc 0)

  abbrev pub equal_tree : Known → CaseTree → CaseTree → Option CaseTree
  equal_tree k a b = do
    d ← tree_difference base k a b
    below ← at_most_tree k d (negsuc 0)
    upto ← at_most_tree k d (pos 0)
    choose base k below (number_tree (pos 0)) upto

  abbrev pub between_tree : Known → CaseTree → ℤ → ℤ → Option CaseTree
  between_tree k t lo hi = do
    below ← at_most_tree k t (lo -ℤ pos 1)
    upto ← at_most_tree k t hi
    choose base k below (number_tree (pos 0)) upto

  abbrev pub opposite_tree : Known → CaseTree → Option CaseTree
  opposite_tree k c = choose base k c (number_tree (pos 0)) (number_tree (pos 1))

  -- an atom of two numbers is a case, and one of one number that number
  abbrev pub read_by : Known → SumAtom → Interval → Option CaseTree
  read_by k a e = cond (int_eq (e.lo +ℤ pos 1) e.hi) (case_of base k (only_atom a) e.lo (number_tree e.lo) (number_tree e.hi)) (Some (Leaf (cond (int_eq e.lo e.hi) (number e.lo) (atom_sum a))))

  abbrev pub read_tree : Known → SumAtom → Option CaseTree
  read_tree k a = do
    e ← atom_ends base k a
    read_by k a e

  -- what is known where a condition isn't 0
  unfoldable pub learned : Known → CaseTree → Option Known
  learned k (Leaf s) = Some k
  learned k (Case p m low high) = do
    e ← primitive_ends base k p
    cond (int_le e.hi m) (learned k low) (cond (int_lt m e.lo) (learned k high) (cond (is_zero_tree high) (do
      under ← known_most base k p m
      learned under low) (cond (is_zero_tree low) (do
        over ← known_above base k p m
        learned over high) (Some k))))

  unfoldable pub tree_ends : Known → CaseTree → Option Interval
  tree_ends k (Leaf s) = sum_ends base k s
  tree_ends k (Case p m low high) = do
    e ← primitive_ends base k p
    cond (int_le e.hi m) (tree_ends k low) (cond (int_lt m e.lo) (tree_ends k high) (do
      under ← known_most base k p m
      over ← known_above base k p m
      a ← tree_ends under low
      b ← tree_ends over high
      Some (both_ends a b)))

  -- the cell of an array at an index that is a tree
  abbrev pub cell_leaf : ℕ → Known → LinearSum → Option CaseTree
  cell_leaf i k s = read_tree k (CellAtom i s.terms s.constant)

  abbrev pub read_cell : ℕ → Known → CaseTree → Option CaseTree
  read_cell i k t = spliced (cell_leaf i) k t
