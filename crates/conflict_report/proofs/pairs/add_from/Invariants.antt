use Rattle.std.proofs.Common.{◌≡◌, ◌++◌, ◌-◌, ◌≤◌}
use Rattle.std.specs.List.{range_with_len, flat_map}
use Rattle.model_core.specs.Code.Views.{graph_of}
use Rattle.model_core.specs.Conflicts.ConflictPairs.{conflict_if}
use Rattle.conflict_report.proofs.pairs.add_from.Given as goal

abbrev pub invariant-loop-b : goal.invariant-loop-b
invariant-loop-b l =
    (l.a ≤ l.b) × (l.pairs ≡ l.initial.pairs ++ flat_map (conflict_if (graph_of l.model) l.a) (range_with_len l.a (l.b - l.a)))
