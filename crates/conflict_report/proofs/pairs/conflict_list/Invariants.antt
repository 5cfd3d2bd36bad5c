use Rattle.std.proofs.Common.{◌≡◌, [], ◌++◌, ◌-◌}
use Rattle.std.specs.List.{range_with_len, flat_map}
use Rattle.model_core.specs.Code.Views.{graph_of}
use Rattle.model_core.specs.Conflicts.ConflictPairs.{conflicts_from}
use Rattle.conflict_report.proofs.pairs.conflict_list.Given as goal

abbrev pub invariant-loop-a : goal.invariant-loop-a
invariant-loop-a l = l.pairs ≡ [] ++ flat_map (conflicts_from (graph_of l.model)) (range_with_len 0 (l.a - 0))
