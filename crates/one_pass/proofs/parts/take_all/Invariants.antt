use Rattle.std.proofs.Common.{length}
use Rattle.model_core.specs.Static.Meanings.{meaning_of}
use Rattle.one_pass.proofs.PartsInTurn.{TakenSoFar}
use Rattle.one_pass.proofs.parts.take_all.Given as goal

-- the parts that were read are those before what is left
abbrev pub invariant-loop-alloc : goal.invariant-loop-alloc
invariant-loop-alloc g l = TakenSoFar g.T.Part.format (meaning_of l.names) (g.T.Part.faults l.is_two (meaning_of l.names) l.taken) g.T.Part.number g.T.Part.plain l.fn.fault l.fault l.fn.cursor l.cursor l.parts

abbrev pub decreases-loop-alloc : goal.decreases-loop-alloc
decreases-loop-alloc g l = length l.cursor
