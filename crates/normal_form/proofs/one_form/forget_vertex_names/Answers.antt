-- One more has no name.
use Rattle.std.proofs.Common.{ℕ, List, get_or, ap}
use Rattle.model_core.specs.Code.Views.{vertex_of}
use Rattle.mark_laws.proofs.WrittenAnew.{one_written, all_written}
use Rattle.normal_form.proofs.one_form.forget_vertex_names.Goals as goal

pub loop-vertex-preserved : goal.loop-vertex-preserved
loop-vertex-preserved c =
    let vertex = get_or c.loop-vertex.vertex-items c.loop-vertex.vertex-index c.vertex-item.result in
    one_written c.loop-vertex.invariant _ _ c.loop-vertex-test.true (ap (λ (name : List ℕ). record (vertex_of vertex) { name = name }) c.clear.ensures.items)

pub returns : goal.returns
returns c = all_written c.loop-vertex.invariant _ _ c.loop-vertex-test.false c.loop-vertex.auto.vertex-index-end c.args.vertices.now.ok.0 c.deref_mut-vertex-items.ensures.value
