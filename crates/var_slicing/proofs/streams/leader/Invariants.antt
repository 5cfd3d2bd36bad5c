use Rattle.std.proofs.Common.{◌≡◌, drop}
use Rattle.var_slicing.specs.Inner.Leading.{leader}
use Rattle.var_slicing.proofs.streams.leader.Given as goal

abbrev pub invariant-loop-draw : goal.invariant-loop-draw
invariant-loop-draw l = leader (drop l.draw-index l.draws) l.stream ≡ leader l.draws l.stream
