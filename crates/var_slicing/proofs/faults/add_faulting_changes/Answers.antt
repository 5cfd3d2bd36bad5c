-- One change more.
use Rattle.std.proofs.Common.{ap}
use Rattle.model_core.specs.Code.Views.{graph_of, change_of}
use Rattle.var_slicing.specs.Inner.Needing.{added_each}
use Rattle.var_slicing.specs.Inner.Faulting.{faults_in_change}
use Rattle.var_slicing.proofs.AddedInTurn.{one_in_turn}
use Rattle.var_slicing.proofs.faults.add_faulting_changes.Goals as goal

pub loop-change-preserved : goal.loop-change-preserved
loop-change-preserved c =
    let added = added_each (faults_in_change c.args.marks.now (graph_of c.args.model.now)) in
    one_in_turn change_of added c.args.changes.now c.loop-change.change-index _ _ _ c.loop-change-test.true c.change-item.is (λ later. ap (added later) c.in_ok-add_faulting_change.ensures) c.loop-change.invariant
