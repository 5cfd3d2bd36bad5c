-- The edges of one vertex more.
use Rattle.std.proofs.Common.{◌∙◌, ◌+◌, List, map, drop, sym, ap}
use Rattle.sig_base.proofs.Lists.{remaining_more}
use Rattle.model_core.specs.declared.vertex.Edge.{Edge}
use Rattle.model_core.specs.EventGraph.{EventVertex}
use Rattle.model_core.specs.Code.Views.{edge_of, vertex_of}
use Rattle.merge_rules.specs.Inner.PairMoves.{edges_added, all_edges_added}
use Rattle.merge_rules.proofs.kept_pairs.add_all_edges.Goals as goal

pub loop-vertex-preserved : goal.loop-vertex-preserved
loop-vertex-preserved c =
    let vertices = c.args.vertices.now in
    let i = c.loop-vertex.vertex-index in
    let before = c.loop-vertex.pairs.items in
    ap (all_edges_added (map vertex_of (drop (i + 1) vertices))) (c.in_ok-add_edges.ensures ∙ ap (λ (edges : List Edge). edges_added (map edge_of edges) before) c.as_slice.ensures)
    ∙ sym (ap (λ (later : List EventVertex). all_edges_added later before) (remaining_more vertex_of vertices i c.vertex-item.result c.loop-vertex-test.true c.vertex-item.is))
    ∙ c.loop-vertex.invariant
