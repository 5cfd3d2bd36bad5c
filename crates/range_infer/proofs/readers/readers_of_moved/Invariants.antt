use Rattle.range_infer.specs.Inner.Readers.{HasReaders}
use Rattle.range_infer.proofs.readers.readers_of_moved.Given as goal

abbrev pub invariant-loop-var : goal.invariant-loop-var
invariant-loop-var l = HasReaders l.moved l.readers l.var l.parts.items
