use Rattle.std.proofs.Common.{◌≡◌, map, drop}
use Rattle.std.specs.List.{list_all}
use Rattle.model_core.specs.Rules.BoundsOfParts.{quiet_change}
use Rattle.model_core.specs.Code.Views.{graph_of, change_of}
use Rattle.merge_rules.proofs.conditions.quiet_changes.Given as goal

abbrev pub invariant-loop-change : goal.invariant-loop-change
invariant-loop-change l =
    list_all (quiet_change (graph_of l.model)) (map change_of (drop l.change-index l.changes))
    ≡ list_all (quiet_change (graph_of l.model)) (map change_of l.changes)
