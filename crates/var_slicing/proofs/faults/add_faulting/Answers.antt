-- One vertex more: its changes and then its edges.
use Rattle.std.proofs.Common.{◌∙◌, ℕ, List, map, ap, ap₂}
use Rattle.model_core.specs.declared.vertex.Change.{Change}
use Rattle.model_core.specs.declared.vertex.Edge.{Edge}
use Rattle.model_core.specs.Code.Views.{graph_of, change_of, edge_of, vertex_of}
use Rattle.var_slicing.specs.Inner.Needing.{added_each}
use Rattle.var_slicing.specs.Inner.Faulting.{faults_in_change, faults_in_edge, with_faults}
use Rattle.var_slicing.proofs.AddedInTurn.{one_in_turn}
use Rattle.var_slicing.proofs.faults.add_faulting.Goals as goal

pub loop-vertex-preserved : goal.loop-vertex-preserved
loop-vertex-preserved c =
    let marks = c.args.marks.now in
    let g = graph_of c.args.model.now in
    let added =
    c.in_ok-add_all_faulting_carried.ensures
    ∙ ap₂ (λ (edges : List Edge) (so_far : List ℕ). added_each (faults_in_edge marks g) (map edge_of edges) so_far) c.as_slice-in-loop-vertex.ensures
    (c.in_ok-add_faulting_changes.ensures ∙ ap (λ (changes : List Change). added_each (faults_in_change marks g) (map change_of changes) c.loop-vertex.out.items) c.as_slice.ensures) in
    one_in_turn vertex_of (with_faults marks g) c.args.vertices.now c.loop-vertex.vertex-index _ _ _ c.loop-vertex-test.true c.vertex-item.is (λ later. ap (with_faults marks g later) added) c.loop-vertex.invariant
