use Rattle.std.proofs.Common.{◌≡◌, ◌++◌, take, drop, slice_set}
use Rattle.model_core.specs.Run.State.{cells_of}
use Rattle.run_snapshot.proofs.parts_from_snapshot.put_variable.Given as goal

abbrev pub invariant-loop-i : goal.invariant-loop-i
invariant-loop-i l = l.state ≡ slice_set l.initial.state l.var (take l.i l.values ++ drop l.i (cells_of l.initial.state l.var))
