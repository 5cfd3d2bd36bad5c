-- One vertex more.
use Rattle.std.proofs.Common.{List, map, ap}
use Rattle.std.specs.List.{flat_map}
use Rattle.model_core.specs.declared.vertex.Edge.{Edge}
use Rattle.model_core.specs.Code.Views.{edge_of, vertex_of}
use Rattle.model_core.specs.Conflicts.Priorities.{edge_priorities, vertex_priorities}
use Rattle.sig_base.proofs.Lists.{seen_more}
use Rattle.conflict_report.proofs.NumbersNoted.{hold-part_more, hold-alike}
use Rattle.conflict_report.proofs.priorities.note_vertices.Goals as goal

pub loop-vertex-preserved : goal.loop-vertex-preserved
loop-vertex-preserved c =
    let v = c.vertex-item.result in
    hold-part_more vertex_priorities _ _ _ c.args.holders.now c.loop-vertex.holders c.note_edges.new.holders (seen_more vertex_of c.args.vertices.now c.loop-vertex.vertex-index v c.loop-vertex-test.true c.vertex-item.is) c.loop-vertex.invariant
    (hold-alike _ (λ j. vertex_priorities j (vertex_of v)) c.loop-vertex.holders c.note_edges.new.holders (λ j. ap (λ (es : List Edge). flat_map (edge_priorities j) (map edge_of es)) c.as_slice.ensures) c.in_ok-note_edges.ensures)
