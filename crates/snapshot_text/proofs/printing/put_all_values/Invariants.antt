use Rattle.std.proofs.Common.{◌≡◌, ◌≤◌, ◌++◌, drop, map, length}
use Rattle.model_core.specs.Code.Views.{variable_of}
use Rattle.model_core.specs.Text.SnapshotText.{value_lines}
use Rattle.snapshot_text.proofs.printing.put_all_values.Given as goal

abbrev pub invariant-loop-var : goal.invariant-loop-var
invariant-loop-var l =
    (l.from ≤ length l.values)
    × (l.out.items ++ value_lines (map variable_of (drop l.var-index l.model.vars)) (drop l.from l.values) ≡ l.fn.out.items ++ value_lines (map variable_of l.model.vars) l.values)
