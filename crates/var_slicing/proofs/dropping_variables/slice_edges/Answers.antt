-- One more is written anew.
use Rattle.mark_laws.proofs.WrittenAnew.{one_written, all_written}
use Rattle.var_slicing.proofs.dropping_variables.slice_edges.Goals as goal

pub loop-edge-preserved : goal.loop-edge-preserved
loop-edge-preserved c = one_written c.loop-edge.invariant c.edge-item.result _ c.loop-edge-test.true c.slice_edge.ensures

pub returns : goal.returns
returns c = all_written c.loop-edge.invariant _ _ c.loop-edge-test.false c.loop-edge.auto.edge-index-end c.args.edges.now.ok.0 c.deref_mut-edge-items.ensures.value
