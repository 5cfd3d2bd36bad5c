use Rattle.std.proofs.Common.{◌≡◌, ◌++◌, take}
use Rattle.std.specs.List.{flat_map}
use Rattle.var_slicing.specs.Inner.Leading.{leader_pairs}
use Rattle.var_slicing.proofs.streams.add_leader_pairs.Given as goal

abbrev pub invariant-loop-draw : goal.invariant-loop-draw
invariant-loop-draw l = l.pairs.items ≡ l.initial.pairs.items ++ flat_map (leader_pairs l.leaders) (take l.draw-index l.draws)
