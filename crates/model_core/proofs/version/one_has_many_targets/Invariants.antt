use Rattle.std.proofs.Common.{◌≡◌, map, drop}
use Rattle.std.specs.List.{list_any}
use Rattle.model_core.specs.Text.VersionNeeded.{has_many_targets}
use Rattle.model_core.specs.Code.Views.{change_of}
use Rattle.model_core.proofs.version.one_has_many_targets.Given as goal

abbrev pub invariant-loop-change : goal.invariant-loop-change
invariant-loop-change l =
    list_any has_many_targets (map change_of (drop l.change-index l.changes))
    ≡ list_any has_many_targets (map change_of l.changes)
