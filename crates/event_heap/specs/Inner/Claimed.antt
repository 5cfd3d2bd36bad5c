-- A node as it is claimed for an event, and as it is given back.
use Rattle.std.specs.Prelude.{◌≡◌, ℕ, List, [], ◌∷◌, ◌++◌, length, slice_set, Option, Some, None}
use Rattle.event_heap.specs.declared.node.Item.{Item}
use Rattle.event_heap.specs.declared.node.Node.{Node}
use Rattle.event_heap.specs.Inner.NodeTrees.{node_at}

-- a heap of one event
abbrev pub lone_node : Item → Node
lone_node x = record { item = Some x; left = None; right = None; rank = 1; left_rank = 0 }

-- the first free node holds the event, or a new one where none is free
abbrev pub IsClaimed : List Node → List Node → Item → Option ℕ → Option ℕ → ℕ → Type 0
IsClaimed old new x None later i = (i ≡ length old) × (later ≡ None) × (new ≡ old ++ lone_node x ∷ [])
IsClaimed old new x (Some j) later i = (i ≡ j) × (later ≡ (node_at old j).left) × (new ≡ slice_set old j (lone_node x))

-- a node without its event, ahead of a chain of free ones
abbrev pub freed : Node → Option ℕ → Node
freed n free = record n { item = None; left = free }
