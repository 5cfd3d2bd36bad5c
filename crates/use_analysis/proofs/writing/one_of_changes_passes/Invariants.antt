use Rattle.std.proofs.Common.{◌≡◌, map, drop}
use Rattle.std.specs.List.{list_any, flat_map}
use Rattle.model_core.specs.Rules.Uses.{change_writes}
use Rattle.model_core.specs.Code.Views.{change_of}
use Rattle.use_analysis.proofs.writing.one_of_changes_passes.Given as goal

abbrev pub invariant-loop-change : goal.invariant-loop-change
invariant-loop-change g l =
    list_any (g.T.NumberTest.test l.test) (flat_map change_writes (map change_of (drop l.change-index l.changes)))
    ≡ list_any (g.T.NumberTest.test l.test) (flat_map change_writes (map change_of l.changes))
