use Rattle.std.proofs.Common.{map, take}
use Rattle.std.specs.List.{flat_map, remove}
use Rattle.model_core.specs.EventGraph.{EventVertex}
use Rattle.model_core.specs.Text.Canonical.{vertex_lines}
use Rattle.model_core.specs.Rules.Drop.{vertex_renumbered}
use Rattle.model_core.specs.Rules.Fuse.{standing_for}
use Rattle.model_core.specs.Code.Views.{graph_of, vertex_of}
use Rattle.model_print.proofs.fused_model.put_vertices_for.Given as goal

abbrev pub invariant-loop-place : goal.invariant-loop-place
invariant-loop-place g l = g.P.Pen.adds l.initial.out l.out (flat_map (λ (v : EventVertex). vertex_lines (graph_of l.model) (vertex_renumbered (standing_for l.keep l.gone) v)) (remove (map vertex_of (take l.place l.vertices)) l.gone))
