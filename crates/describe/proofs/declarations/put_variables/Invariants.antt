use Rattle.std.proofs.Common.{◌≡◌, ◌++◌, map, take}
use Rattle.std.specs.List.{flat_map}
use Rattle.model_core.specs.Code.Views.{variable_of}
use Rattle.describe.specs.Description.{variable_sentence}
use Rattle.describe.proofs.declarations.put_variables.Given as goal

abbrev pub invariant-loop-var : goal.invariant-loop-var
invariant-loop-var l = l.out.items ≡ l.initial.out.items ++ flat_map variable_sentence (map variable_of (take l.var-index l.vars))
