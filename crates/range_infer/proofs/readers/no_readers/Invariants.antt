use Rattle.std.proofs.Common.{◌≡◌}
use Rattle.range_infer.specs.Inner.Readers.{no_readers}
use Rattle.range_infer.proofs.readers.no_readers.Given as goal

abbrev pub invariant-loop-place : goal.invariant-loop-place
invariant-loop-place l = l.readers.items ≡ no_readers l._place
