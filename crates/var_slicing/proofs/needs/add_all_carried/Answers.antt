-- The edges of one vertex more.
use Rattle.std.proofs.Common.{◌∙◌, List, map, ap}
use Rattle.model_core.specs.declared.vertex.Edge.{Edge}
use Rattle.model_core.specs.Code.Views.{graph_of, edge_of, vertex_of}
use Rattle.var_slicing.specs.Inner.Needing.{added_each, edge_pairs, with_value_pairs}
use Rattle.var_slicing.proofs.AddedInTurn.{one_in_turn}
use Rattle.var_slicing.proofs.needs.add_all_carried.Goals as goal

pub loop-vertex-preserved : goal.loop-vertex-preserved
loop-vertex-preserved c =
    let marks = c.args.marks.now in
    let g = graph_of c.args.model.now in
    let added = c.in_ok-add_carried.ensures ∙ ap (λ (edges : List Edge). added_each (edge_pairs marks g) (map edge_of edges) c.loop-vertex.pairs.items) c.as_slice.ensures in
    one_in_turn vertex_of (with_value_pairs marks g) c.args.vertices.now c.loop-vertex.vertex-index _ _ _ c.loop-vertex-test.true c.vertex-item.is (λ later. ap (with_value_pairs marks g later) added) c.loop-vertex.invariant
