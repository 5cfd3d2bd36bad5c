use Rattle.std.proofs.Common.{◌≡◌, take}
use Rattle.model_core.specs.Saved.Cells.{in_one_list}
use Rattle.run_snapshot.proofs.saving.all_cells.Given as goal

abbrev pub invariant-loop-var : goal.invariant-loop-var
invariant-loop-var l = l.values.items ≡ in_one_list (take l.var l.state)
