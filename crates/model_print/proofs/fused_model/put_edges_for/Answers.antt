-- the invariant after one element more
use Rattle.std.proofs.Common.{ℕ, map, ap, ◌∙◌}
use Rattle.std.proofs.lemmas.List.{map_push}
use Rattle.sig_base.proofs.Lists.{seen_more}
use Rattle.model_core.specs.EventGraph.{EventEdge}
use Rattle.model_core.specs.Text.Canonical.{edge_line}
use Rattle.model_core.specs.Rules.Drop.{edge_renumbered}
use Rattle.model_core.specs.Rules.Fuse.{standing_for}
use Rattle.model_core.specs.Code.Views.{edge_of, graph_of}
use Rattle.model_print.proofs.Putting.{put_as, one_more_put}
use Rattle.model_print.proofs.fused_model.put_edges_for.Goals as goal

pub loop-edge-preserved : goal.loop-edge-preserved
loop-edge-preserved g c =
    let e : EventEdge = edge_of c.edge-item.result in
    let turned = edge_renumbered (standing_for c.args.keep c.args.gone) in
    one_more_put g.met.P.Pen.both (edge_line (graph_of c.args.model.now)) _ _ (turned e)
    (ap (map turned) (seen_more edge_of _ c.loop-edge.edge-index c.edge-item.result c.loop-edge-test.true c.edge-item.is) ∙ map_push turned _ e)
    c.loop-edge.invariant
    (put_as g.met.P.Pen.both _ (ap (λ (target : ℕ). edge_line (graph_of c.args.model.now) (record e { target = target })) c.standing_for.ensures) c.put_edge_to.ensures)
