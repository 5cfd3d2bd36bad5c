use Rattle.std.proofs.Common.{◌≡◌, ◌++◌, drop}
use Rattle.model_core.specs.Rules.Needed.{drawn_from}
use Rattle.var_slicing.proofs.delays.add_drawn_from.Given as goal

abbrev pub invariant-loop-draw : goal.invariant-loop-draw
invariant-loop-draw l = l.out.items ++ drawn_from l.streams (drop l.draw-index l.draws) ≡ l.initial.out.items ++ drawn_from l.streams l.draws
