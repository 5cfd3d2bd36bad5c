use Rattle.std.proofs.Common.{length, map}
use Rattle.model_core.specs.Code.Views.{expression_of}
use Rattle.model_core.specs.Static.Meanings.{meaning_of}
use Rattle.one_pass.proofs.ValuesRead.{ListedSoFar}
use Rattle.one_pass.proofs.values.values.Given as goal

-- the values that were read are those before what is left
abbrev pub invariant-loop-alloc : goal.invariant-loop-alloc
invariant-loop-alloc l = ListedSoFar (meaning_of l.names) l.kinds l.fn.cursor l.cursor (map expression_of l.all)

abbrev pub decreases-loop-alloc : goal.decreases-loop-alloc
decreases-loop-alloc l = length l.cursor
