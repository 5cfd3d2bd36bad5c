-- A node with another heap below it.
use Rattle.std.specs.Prelude.{ℕ, ◌+◌, ◌<◌, cond, nat_lt, List, length, Some, IsSome}
use Rattle.event_heap.specs.declared.node.Node.{Node}
use Rattle.event_heap.specs.Inner.NodeTrees.{item_at}

-- a node with another heap on its right
abbrev pub hung : Node → ℕ → Node
hung n below = record n { right = Some below }

-- a node whose right heap has a rank, with the heap of greater rank on its left
abbrev pub seated : Node → ℕ → Node
seated n rank_below =
    cond (nat_lt n.left_rank rank_below) (record n { left = n.right; right = n.left; rank = n.left_rank + 1; left_rank = rank_below }) (record n { rank = rank_below + 1 })

-- both nodes have events
pub record CanCompare (nodes : List Node) (i j : ℕ) : Type 0 where
  pub one_there : i < length nodes
  pub other_there : j < length nodes
  pub one : IsSome (item_at nodes i)
  pub other : IsSome (item_at nodes j)
