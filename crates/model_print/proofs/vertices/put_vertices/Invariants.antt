use Rattle.std.proofs.Common.{map, take}
use Rattle.std.specs.List.{flat_map}
use Rattle.model_core.specs.Text.Canonical.{vertex_lines}
use Rattle.model_core.specs.Code.Views.{vertex_of, graph_of}
use Rattle.model_print.proofs.vertices.put_vertices.Given as goal

abbrev pub invariant-loop-vertex : goal.invariant-loop-vertex
invariant-loop-vertex g l = g.P.Pen.adds l.initial.out l.out (flat_map (vertex_lines (graph_of l.model)) (map vertex_of (take l.vertex-index l.vertices)))
