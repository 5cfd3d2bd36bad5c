use Rattle.std.proofs.Common.{◌≡◌, map, take}
use Rattle.model_core.specs.EventGraph.{scalar_location}
use Rattle.model_core.specs.Code.Views.{location_of}
use Rattle.merge_rules.proofs.taking_over.scalar_targets.Given as goal

abbrev pub invariant-loop-var : goal.invariant-loop-var
invariant-loop-var l = map location_of l.targets.items ≡ map scalar_location (take l.var-index l.vars)
