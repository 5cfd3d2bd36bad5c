use Rattle.std.proofs.Common.{map, take}
use Rattle.std.specs.List.{flat_map}
use Rattle.model_core.specs.Text.Canonical.{vertex_lines}
use Rattle.model_core.specs.Rules.PlacedEdges.{with_place}
use Rattle.model_core.specs.Rules.Prune.{without_edge}
use Rattle.model_core.specs.Code.Views.{graph_of, vertex_of}
use Rattle.model_print.proofs.model_without_edge.put_vertices_without.Given as goal

abbrev pub invariant-loop-place : goal.invariant-loop-place
invariant-loop-place g l = g.P.Pen.adds l.initial.out l.out (flat_map (vertex_lines (graph_of l.model)) (with_place (without_edge l.edge) l.lacking (map vertex_of (take l.place l.vertices))))
