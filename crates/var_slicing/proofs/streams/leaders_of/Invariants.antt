use Rattle.std.proofs.Common.{◌≡◌, drop}
use Rattle.var_slicing.specs.Inner.Leading.{leaders_after, leaders_of}
use Rattle.var_slicing.proofs.streams.leaders_of.Given as goal

abbrev pub invariant-loop-draw : goal.invariant-loop-draw
invariant-loop-draw l = leaders_after l.count l.leaders.items (drop l.draw-index l.draws) ≡ leaders_of l.count l.draws
