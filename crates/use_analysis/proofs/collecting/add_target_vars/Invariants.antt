use Rattle.std.proofs.Common.{◌≡◌, ◌++◌, map, take}
use Rattle.model_core.specs.EventGraph.{Location}
use Rattle.model_core.specs.Code.Views.{location_of}
use Rattle.use_analysis.proofs.collecting.add_target_vars.Given as goal

abbrev pub invariant-loop-target : goal.invariant-loop-target
invariant-loop-target l = l.out.items ≡ l.initial.out.items ++ map (λ (t : Location). t.variable) (map location_of (take l.target-index l.targets))
