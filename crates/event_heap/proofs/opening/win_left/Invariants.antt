-- From the place on, the left has won.
use Rattle.event_heap.specs.Inner.Opening.{IsOpened}
use Rattle.event_heap.proofs.opening.win_left.Given as goal

abbrev pub invariant-loop-place : goal.invariant-loop-place
invariant-loop-place l = IsOpened l.vertices l.winners l.place
