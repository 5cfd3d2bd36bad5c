-- Which nodes of the vector are a tree.
use Rattle.std.specs.Prelude.{◌≡◌, ℕ, suc, ◌+◌, ◌<◌, ◌≤◌, ◌^◌, List, map, length, slice_index_or, Option, Some, None}
use Rattle.event_heap.specs.declared.node.Item.{Item}
use Rattle.event_heap.specs.declared.node.Node.{Node}
use Rattle.event_heap.specs.Inner.Tree.{Tree, Leaf, Fork, leftist_rank, times_in}

-- the default for a place without a node
abbrev pub no_node : Node
no_node = record { item = None; left = None; right = None; rank = 0; left_rank = 0 }

abbrev pub node_at : List Node → ℕ → Node
node_at nodes i = slice_index_or nodes i no_node

abbrev pub item_at : List Node → ℕ → Option Item
item_at nodes i = (node_at nodes i).item

-- the events of all nodes, by place
abbrev pub items_of : List Node → List (Option Item)
items_of nodes = map (λ n. n.item) nodes

-- the rank of a node, and 0 of no node
abbrev pub rank_at : List Node → Option ℕ → ℕ
rank_at nodes None = 0
rank_at nodes (Some i) = (node_at nodes i).rank

-- the node's event is x, its rank is one above that on its right, and it knows that on its left
pub record IsFork (nodes : List Node) (i : ℕ) (x : Item) (l r : Tree) : Type 0 where
  pub within : i < length nodes
  pub item : item_at nodes i ≡ Some x
  pub rank_is : (node_at nodes i).rank ≡ suc (leftist_rank r)
  pub left_rank_is : (node_at nodes i).left_rank ≡ leftist_rank l

-- from the node at the place on, the nodes are the tree
abbrev pub IsTreeFrom : List Node → Tree → Option ℕ → Type 0
IsTreeFrom nodes Leaf None = Unit {0}
IsTreeFrom nodes Leaf (Some i) = ⊥
IsTreeFrom nodes (Fork p x l r) None = ⊥
IsTreeFrom nodes (Fork p x l r) (Some i) = (i ≡ p) × IsFork nodes p x l r × IsTreeFrom nodes l (node_at nodes p).left × IsTreeFrom nodes r (node_at nodes p).right

-- the nodes from two places on are two trees that have no node in common
pub record TreesApart (nodes : List Node) (s t : Tree) (a b : Option ℕ) : Type 0 where
  pub one : IsTreeFrom nodes s a
  pub other : IsTreeFrom nodes t b
  pub apart : (p : ℕ) → times_in p s + times_in p t ≤ 1
  pub ranks : leftist_rank s + leftist_rank t < 2 ^ 32

-- the nodes from the place on are the tree, all others are as they were, and each node keeps its event
pub record IsRebuilt (old new : List Node) (t : Tree) (root : Option ℕ) : Type 0 where
  pub is_tree : IsTreeFrom new t root
  pub others : (p : ℕ) → times_in p t ≡ 0 → node_at new p ≡ node_at old p
  pub count : length new ≡ length old
  pub items : items_of new ≡ items_of old
