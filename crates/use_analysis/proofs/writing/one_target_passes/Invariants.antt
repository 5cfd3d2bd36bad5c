use Rattle.std.proofs.Common.{◌≡◌, map, drop}
use Rattle.std.specs.List.{list_any}
use Rattle.model_core.specs.EventGraph.{Location}
use Rattle.model_core.specs.Code.Views.{location_of}
use Rattle.use_analysis.proofs.writing.one_target_passes.Given as goal

abbrev pub invariant-loop-target : goal.invariant-loop-target
invariant-loop-target g l =
    list_any (g.T.NumberTest.test l.test) (map (λ (t : Location). t.variable) (map location_of (drop l.target-index l.targets)))
    ≡ list_any (g.T.NumberTest.test l.test) (map (λ (t : Location). t.variable) (map location_of l.targets))
