use Rattle.std.proofs.Common.{ℕ, length}
use Rattle.event_heap.specs.Inner.Tree.{Tree}
use Rattle.event_heap.specs.Inner.Forest.{IsHeapOf}
use Rattle.model_core.specs.Run.Pending.{same_values}
use Rattle.event_heap.proofs.Weights.{weight}
use Rattle.event_heap.proofs.Searching.{Searching}
use Rattle.event_heap.proofs.roots_set_aside.search.Given as goal

abbrev pub invariant-loop-heap : goal.invariant-loop-heap
invariant-loop-heap g l = (v : ℕ) (t : Tree) → IsHeapOf l.fn.nodes v t l.fn.root → Searching (λ e. same_values e.values l.values.items) l.fn.nodes l.nodes t l.heap l.kept

abbrev pub decreases-loop-heap : goal.decreases-loop-heap
decreases-loop-heap g l = weight l.nodes (length l.nodes) l.heap
