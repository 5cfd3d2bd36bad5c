use Rattle.std.proofs.Common.{◌≡◌, ◌++◌, map, take}
use Rattle.model_core.specs.Text.Canonical.{after_commas, variable_name}
use Rattle.model_core.specs.Code.Views.{graph_of}
use Rattle.model_pairs.proofs.declared_lines.put_more_parameters.Given as goal

abbrev pub invariant-loop-next : goal.invariant-loop-next
invariant-loop-next l = l.out.items ≡ l.initial.out.items ++ after_commas (map (variable_name (graph_of l.model)) (take l.next-index l.params))
