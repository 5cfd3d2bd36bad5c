use Rattle.std.proofs.Common.{◌≡◌, map, take}
use Rattle.model_core.specs.Code.Views.{variable_of}
use Rattle.model_core.specs.Ranges.OtherRanges.{declared_range}
use Rattle.range_infer.proofs.narrowing.declared_ranges.Given as goal

abbrev pub invariant-loop-var : goal.invariant-loop-var
invariant-loop-var l = l.ranges.items ≡ map declared_range (map variable_of (take l.var-index l.vars))
