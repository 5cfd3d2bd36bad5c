use Rattle.std.proofs.Common.{ℕ, List, length}
use Rattle.event_heap.specs.Inner.Tree.{Tree}
use Rattle.event_heap.specs.Inner.Aside.{CanMergeBack, IsSplit}
use Rattle.event_heap.proofs.Weights.{reach}
use Rattle.event_heap.proofs.roots_set_aside.merge_back.Given as goal

abbrev pub invariant-loop-next : goal.invariant-loop-next
invariant-loop-next g l = (whole : ℕ → ℕ) (s : Tree) (aside : List ℕ) → CanMergeBack l.fn.nodes whole s aside l.fn.heap l.fn.kept → (now : Tree) × (left : List ℕ) × IsSplit l.fn.nodes l.nodes whole whole now left l.root l.next

abbrev pub decreases-loop-next : goal.decreases-loop-next
decreases-loop-next g l = reach l.nodes (length l.nodes) l.next
