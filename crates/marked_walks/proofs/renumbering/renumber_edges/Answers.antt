-- One more is written anew.
use Rattle.std.proofs.Common.{ℕ, get_or, ap}
use Rattle.model_core.specs.Code.Views.{edge_of}
use Rattle.mark_laws.proofs.WrittenAnew.{one_written, all_written}
use Rattle.marked_walks.proofs.renumbering.renumber_edges.Goals as goal

pub loop-edge-preserved : goal.loop-edge-preserved
loop-edge-preserved g c =
    let edge = get_or c.loop-edge.edge-items c.loop-edge.edge-index c.edge-item.result in
    one_written c.loop-edge.invariant _ _ c.loop-edge-test.true (ap (λ (k : ℕ). record (edge_of edge) { target = k }) c.place-edge.ensures)

pub returns : goal.returns
returns g c = all_written c.loop-edge.invariant _ _ c.loop-edge-test.false c.loop-edge.auto.edge-index-end c.args.edges.now.ok.0 c.deref_mut-edge-items.ensures.value
