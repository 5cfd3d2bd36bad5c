use Rattle.std.proofs.Common.{map, take}
use Rattle.std.specs.List.{flat_map}
use Rattle.model_core.specs.Text.Canonical.{variable_line}
use Rattle.model_core.specs.Code.Views.{variable_of}
use Rattle.model_print.proofs.declarations.put_variables.Given as goal

abbrev pub invariant-loop-var : goal.invariant-loop-var
invariant-loop-var g l = g.P.Pen.adds l.initial.out l.out (flat_map variable_line (map variable_of (take l.var-index l.vars)))
