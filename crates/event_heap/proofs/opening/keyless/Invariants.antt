-- So far each vertex has no key.
use Rattle.std.proofs.Common.{◌≡◌, replicate, None}
use Rattle.event_heap.proofs.opening.keyless.Given as goal

abbrev pub invariant-loop : goal.invariant-loop
invariant-loop l = l.keys.items ≡ replicate l.counter None
