-- One edge more.
use Rattle.std.proofs.Common.{◌∙◌, ◌+◌, List, map, drop, sym, ap}
use Rattle.sig_base.proofs.Lists.{remaining_more}
use Rattle.model_core.specs.EventGraph.{EventEdge}
use Rattle.model_core.specs.Code.Views.{edge_of}
use Rattle.merge_rules.specs.Inner.PairMoves.{edges_added}
use Rattle.merge_rules.proofs.kept_pairs.add_edges.Goals as goal

pub loop-edge-preserved : goal.loop-edge-preserved
loop-edge-preserved c =
    let edges = c.args.edges.now in
    let i = c.loop-edge.edge-index in
    ap (edges_added (map edge_of (drop (i + 1) edges))) c.in_ok-add_edge.ensures
    ∙ sym (ap (λ (later : List EventEdge). edges_added later c.loop-edge.pairs.items) (remaining_more edge_of edges i c.edge-item.result c.loop-edge-test.true c.edge-item.is))
    ∙ c.loop-edge.invariant
