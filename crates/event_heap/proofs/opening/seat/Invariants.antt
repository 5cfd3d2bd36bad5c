-- So far each vertex has its place.
use Rattle.event_heap.specs.Inner.Opening.{IsSeated}
use Rattle.event_heap.proofs.opening.seat.Given as goal

abbrev pub invariant-loop-vertex : goal.invariant-loop-vertex
invariant-loop-vertex l = IsSeated l.vertices l.vertex l.winners
