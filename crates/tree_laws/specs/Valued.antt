-- The tree of an expression, and the checks that are noted as it is made.
use Rattle.std.specs.Prelude.{ℕ, pos, ◌-ℤ◌, int_le, Bool, true, false, ◌&&◌, cond, List, [], ◌∷◌, Option, Some}
use Rattle.sig_base.specs.declared.fault.FaultKind.{FaultKind}
use Rattle.sig_base.specs.declared.fault.FaultKind.TheVariants as faults
use Rattle.model_core.specs.EventGraph.{EventGraph, Expression, Number, Truth, Clock, Scalar, Cell, Negative, Not, Binary, If, Operator, Add, Subtract, Multiply, Divide, Remainder, Least, Greatest, Equal, NotEqual, Below, AtMost, Above, AtLeast, And, Or}
use Rattle.model_core.specs.Run.State.{variable_at}
use Rattle.model_core.specs.Run.Value.{number_of}
use Rattle.model_core.specs.Rules.BoundsTable.{lowest, highest}
use Rattle.tree_laws.specs.LinearSums.{ClockAtom, Mul, Div, Rem}
use Rattle.tree_laws.specs.Limits.{◌>>=◌}
use Rattle.tree_laws.specs.SumEnds.{Ground, Known}
use Rattle.tree_laws.specs.Trees.{CaseTree, same_tree}
use Rattle.tree_laws.specs.TreesJoined.{tree_sum, tree_difference, tree_operation, choose, renewed}
use Rattle.tree_laws.specs.TreeConditions.{number_tree, at_most_tree, less_tree, equal_tree, between_tree, opposite_tree, read_tree, read_cell, learned, tree_ends}

abbrev pub same_fault : FaultKind → FaultKind → Bool
same_fault faults.Overflow faults.Overflow = true
same_fault faults.DivisionByZero faults.DivisionByZero = true
same_fault faults.IndexOutside faults.IndexOutside = true
same_fault faults.RangeOutside faults.RangeOutside = true
same_fault faults.NegativeDelay faults.NegativeDelay = true
same_fault f h = false

-- a condition without which there is a fault of this kind
pub record Check : Type 0 where
  pub kind : FaultKind
  pub tree : CaseTree

-- what is known, and the checks, the newest first
pub record Noted : Type 0 where
  pub known : Known
  pub checks : List Check

pub record Valued : Type 0 where
  pub tree : CaseTree
  pub noted : Noted

-- a value that was stored at an index of an array
pub record Stored : Type 0 where
  pub index : CaseTree
  pub value : CaseTree

-- the values so far: of each scalar, and what was stored into each array, the last store first
pub record SoFar : Type 0 where
  pub scalar : ℕ → CaseTree
  pub stores : ℕ → List Stored

module _ (base : Ground) where
  abbrev pub with_check : FaultKind → CaseTree → List Check → Option (List Check)
  with_check kind c [] = do
    d ← renewed base [] c
    Some (record { kind = kind; tree = d } ∷ [])
  with_check kind c (it ∷ older) = cond (same_fault it.kind kind)
      (do
        d ← choose base [] it.tree c (number_tree (pos 0))
        Some (record { kind = kind; tree = d } ∷ older))
      (do
        d ← renewed base [] c
        Some (record { kind = kind; tree = d } ∷ it ∷ older))

  abbrev pub learned_newest : Known → List Check → Option Noted
  learned_newest k [] = Some (record { known = k; checks = [] })
  learned_newest k (it ∷ older) = do
    l ← learned base k it.tree
    Some (record { known = l; checks = it ∷ older })

  -- a check of this kind where the guard is 1
  abbrev pub note : FaultKind → CaseTree → CaseTree → Noted → Option Noted
  note kind guard condition n = do
    c ← choose base n.known guard condition (number_tree (pos 1))
    cond (same_tree c (number_tree (pos 1))) (Some n) (do
      cs ← with_check kind c n.checks
      learned_newest n.known cs)

  abbrev pub plain : Noted → Option CaseTree → Option Valued
  plain n o = do
    t ← o
    Some (record { tree = t; noted = n })

  -- a value that is checked for overflow, where its ends don't fit
  abbrev pub checked : CaseTree → Noted → Option CaseTree → Option Valued
  checked guard n o = do
    t ← o
    e ← tree_ends base n.known t
    cond (int_le lowest e.lo && int_le e.hi highest) (Some (record { tree = t; noted = n })) (do
      c ← between_tree base n.known t lowest highest
      m ← note faults.Overflow guard c n
      Some (record { tree = t; noted = m }))

  -- the divisor isn't 0
  abbrev pub divisor_checked : CaseTree → CaseTree → Noted → Option Noted
  divisor_checked guard b n = do
    e ← equal_tree base n.known b (number_tree (pos 0))
    c ← opposite_tree base n.known e
    note faults.DivisionByZero guard c n

  abbrev pub at_most_other : Known → CaseTree → CaseTree → Option CaseTree
  at_most_other k a b = do
    d ← tree_difference base k a b
    at_most_tree base k d (pos 0)

  abbrev pub picked : Known → Option CaseTree → CaseTree → CaseTree → Option CaseTree
  picked k o a b = do
    c ← o
    choose base k c a b

  abbrev pub turned_about : Known → Option CaseTree → Option CaseTree
  turned_about k o = do
    c ← o
    opposite_tree base k c

  -- an operator at the trees of its operands
  abbrev pub operator : Operator → CaseTree → CaseTree → CaseTree → Noted → Option Valued
  operator Add guard a b n = checked guard n (tree_sum base n.known a b)
  operator Subtract guard a b n = checked guard n (tree_difference base n.known a b)
  operator Multiply guard a b n = checked guard n (tree_operation base Mul n.known a b)
  operator Divide guard a b n = do
    m ← divisor_checked guard b n
    checked guard m (tree_operation base Div m.known a b)
  operator Remainder guard a b n = do
    m ← divisor_checked guard b n
    plain m (tree_operation base Rem m.known a b)
  operator Least guard a b n = plain n (picked n.known (at_most_other n.known a b) a b)
  operator Greatest guard a b n = plain n (picked n.known (at_most_other n.known a b) b a)
  operator Equal guard a b n = plain n (equal_tree base n.known a b)
  operator NotEqual guard a b n = plain n (turned_about n.known (equal_tree base n.known a b))
  operator Below guard a b n = plain n (less_tree base n.known a b)
  operator AtMost guard a b n = plain n (at_most_other n.known a b)
  operator Above guard a b n = plain n (less_tree base n.known b a)
  operator AtLeast guard a b n = plain n (at_most_other n.known b a)
  operator And guard a b n = plain n (choose base n.known a b (number_tree (pos 0)))
  operator Or guard a b n = plain n (choose base n.known a (number_tree (pos 1)) b)

  -- the guard of a part that counts where c is 1, and where c is 0
  abbrev pub guard_and : Known → CaseTree → CaseTree → Option CaseTree
  guard_and k guard c = choose base k guard c (number_tree (pos 0))

  abbrev pub guard_not : Known → CaseTree → CaseTree → Option CaseTree
  guard_not k guard c = do
    d ← opposite_tree base k c
    choose base k guard d (number_tree (pos 0))

  abbrev pub guard_beside : Operator → Known → CaseTree → CaseTree → Option CaseTree
  guard_beside And k guard a = guard_and k guard a
  guard_beside Or k guard a = guard_not k guard a
  guard_beside op k guard a = Some guard

  -- after the stores, the last first
  unfoldable pub after_stores : Known → CaseTree → CaseTree → List Stored → Option CaseTree
  after_stores k a first [] = Some first
  after_stores k a first (s ∷ before) = do
    t ← after_stores k a first before
    c ← equal_tree base k a s.index
    choose base k c s.value t

  module _ (g : EventGraph) (so_far : SoFar) where
    unfoldable pub valued : Expression → CaseTree → Noted → Option Valued
    valued (Number x) guard n = Some (record { tree = number_tree x; noted = n })
    valued (Truth b) guard n = Some (record { tree = number_tree (number_of b); noted = n })
    valued Clock guard n = plain n (read_tree base n.known ClockAtom)
    valued (Scalar i) guard n = Some (record { tree = so_far.scalar i; noted = n })
    valued (Cell i e) guard n = do
      a ← valued e guard n
      first ← read_cell base i a.noted.known a.tree
      t ← after_stores a.noted.known a.tree first (so_far.stores i)
      c ← between_tree base a.noted.known a.tree (pos 0) (pos (variable_at g i).size -ℤ pos 1)
      m ← note faults.IndexOutside guard c a.noted
      Some (record { tree = t; noted = m })
    valued (Negative e) guard n = do
      a ← valued e guard n
      checked guard a.noted (tree_difference base a.noted.known (number_tree (pos 0)) a.tree)
    valued (Not e) guard n = do
      a ← valued e guard n
      plain a.noted (opposite_tree base a.noted.known a.tree)
    valued (Binary op left right) guard n = do
      a ← valued left guard n
      beside ← guard_beside op a.noted.known guard a.tree
      b ← valued right beside a.noted
      operator op guard a.tree b.tree b.noted
    valued (If test left right) guard n = do
      c ← valued test guard n
      where_one ← guard_and c.noted.known guard c.tree
      a ← valued left where_one c.noted
      where_zero ← guard_not a.noted.known guard c.tree
      b ← valued right where_zero a.noted
      plain b.noted (choose base b.noted.known c.tree a.tree b.tree)
