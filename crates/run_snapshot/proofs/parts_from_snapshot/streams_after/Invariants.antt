use Rattle.std.proofs.Common.{◌≡◌, ◌-◌, ◌++◌, take, replicate}
use Rattle.run_snapshot.proofs.parts_from_snapshot.streams_after.Given as goal

abbrev pub invariant-loop-stream : goal.invariant-loop-stream
invariant-loop-stream l = (l.streams.seed ≡ l.seed) × (l.streams.taken ≡ take l.stream l.taken ++ replicate (64 - l.stream) 0)
