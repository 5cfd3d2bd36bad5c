use Rattle.std.proofs.Common.{map, take}
use Rattle.std.specs.List.{flat_map}
use Rattle.model_core.specs.Text.Canonical.{change_line}
use Rattle.model_core.specs.Code.Views.{change_of, graph_of}
use Rattle.model_print.proofs.vertices.put_changes.Given as goal

abbrev pub invariant-loop-change : goal.invariant-loop-change
invariant-loop-change g l = g.P.Pen.adds l.initial.out l.out (flat_map (change_line (graph_of l.model)) (map change_of (take l.change-index l.changes)))
