-- One edge more.
use Rattle.std.proofs.Common.{ap}
use Rattle.model_core.specs.Code.Views.{graph_of, edge_of}
use Rattle.var_slicing.specs.Inner.Needing.{added_each}
use Rattle.var_slicing.specs.Inner.Faulting.{faults_in_edge}
use Rattle.var_slicing.proofs.AddedInTurn.{one_in_turn}
use Rattle.var_slicing.proofs.faults.add_all_faulting_carried.Goals as goal

pub loop-edge-preserved : goal.loop-edge-preserved
loop-edge-preserved c =
    let added = added_each (faults_in_edge c.args.marks.now (graph_of c.args.model.now)) in
    one_in_turn edge_of added c.args.edges.now c.loop-edge.edge-index _ _ _ c.loop-edge-test.true c.edge-item.is (λ later. ap (added later) c.in_ok-add_faulting_carried.ensures) c.loop-edge.invariant
