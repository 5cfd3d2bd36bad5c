use Rattle.std.proofs.Common.{◌≡◌, map}
use Rattle.std.specs.List.{range_with_len}
use Rattle.model_core.specs.Code.Views.{variable_of}
use Rattle.model_gen.specs.Generated.{counter}
use Rattle.model_gen.proofs.declared_parts.variables.Given as goal

abbrev pub invariant-loop-number : goal.invariant-loop-number
invariant-loop-number l = map variable_of l.vars.items ≡ map counter (range_with_len 0 l.number)
