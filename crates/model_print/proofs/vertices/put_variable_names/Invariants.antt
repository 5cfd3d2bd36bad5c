use Rattle.std.proofs.Common.{map, take}
use Rattle.model_core.specs.Text.Canonical.{after_commas, variable_name}
use Rattle.model_core.specs.Code.Views.{graph_of}
use Rattle.model_print.proofs.vertices.put_variable_names.Given as goal

abbrev pub invariant-loop-var : goal.invariant-loop-var
invariant-loop-var g l = g.P.Pen.adds l.initial.out l.out (after_commas (map (variable_name (graph_of l.model)) (take l.var-index l.rest)))
