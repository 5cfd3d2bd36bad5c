-- One more is written anew.
use Rattle.std.proofs.Common.{◌∙◌, ℕ, ap, ap₂, map, get_or, List}
use Rattle.std.specs.List.{flat_map}
use Rattle.model_core.specs.declared.vertex.Change.{Change}
use Rattle.model_core.specs.EventGraph.{StateChange}
use Rattle.model_core.specs.Rules.Slice.{sliced_parameters, sliced_change}
use Rattle.model_core.specs.Code.Views.{vertex_of, change_of}
use Rattle.mark_laws.proofs.WrittenAnew.{one_written, all_written}
use Rattle.var_slicing.proofs.dropping_variables.slice_all_stores.Goals as goal

pub loop-vertex-preserved : goal.loop-vertex-preserved
loop-vertex-preserved c =
    let marks = c.args.staying.now in
    let vertex = get_or c.loop-vertex.vertex-items c.loop-vertex.vertex-index c.vertex-item.result in
    one_written c.loop-vertex.invariant _ _ c.loop-vertex-test.true (ap₂ (λ (ps : List ℕ) (cs : List StateChange). record (vertex_of vertex) { parameters = ps; changes = cs })
    (c.slice_params.ensures ∙ ap (sliced_parameters marks) c.as_mut_vec.ensures.shows)
    (c.slice_changes.ensures ∙ ap (λ (cs : List Change). flat_map (sliced_change marks) (map change_of cs)) c.as_mut_vec-in-loop-vertex.ensures.shows))

pub returns : goal.returns
returns c = all_written c.loop-vertex.invariant _ _ c.loop-vertex-test.false c.loop-vertex.auto.vertex-index-end c.args.vertices.now.ok.0 c.deref_mut-vertex-items.ensures.value
