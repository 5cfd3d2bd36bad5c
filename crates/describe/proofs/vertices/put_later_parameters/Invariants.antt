use Rattle.std.proofs.Common.{◌≡◌, ◌++◌, map, take}
use Rattle.model_core.specs.Text.Canonical.{after_commas, variable_name}
use Rattle.model_core.specs.Code.Views.{graph_of}
use Rattle.describe.proofs.vertices.put_later_parameters.Given as goal

abbrev pub invariant-loop-param : goal.invariant-loop-param
invariant-loop-param l = l.out.items ≡ l.initial.out.items ++ after_commas (map (variable_name (graph_of l.model)) (take l.param-index l.params))
