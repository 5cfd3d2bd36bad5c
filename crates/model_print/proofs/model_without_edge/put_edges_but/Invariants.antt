use Rattle.std.proofs.Common.{map, take}
use Rattle.std.specs.List.{flat_map, remove}
use Rattle.model_core.specs.Text.Canonical.{edge_line}
use Rattle.model_core.specs.Code.Views.{graph_of, edge_of}
use Rattle.model_print.proofs.model_without_edge.put_edges_but.Given as goal

abbrev pub invariant-loop-place : goal.invariant-loop-place
invariant-loop-place g l = g.P.Pen.adds l.initial.out l.out (flat_map (edge_line (graph_of l.model)) (remove (map edge_of (take l.place l.edges)) l.left_out))
