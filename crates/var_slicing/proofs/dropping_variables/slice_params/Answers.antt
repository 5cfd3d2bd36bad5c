-- One item more, which stays or goes; at the end those that stay are left.
use Rattle.std.proofs.Common.{◌∙◌, refl, sym, ap}
use Rattle.std.proofs.lemmas.List.{map-id}
use Rattle.model_core.specs.Rules.Slice.{sliced_parameters}
use Rattle.var_slicing.proofs.LeftLists.{parameters-at}
use Rattle.mark_laws.proofs.LeftInPlace.{one_left, all_left}
use Rattle.var_slicing.proofs.dropping_variables.slice_params.Goals as goal

pub loop-place-preserved : goal.loop-place-preserved
loop-place-preserved c =
    one_left c.loop-place.invariant c.index_mut.result.now _ c.renumber_param-stays.result c.loop-place-test.true c.len-place-end.ensures c.args.params.now.ok.0 c.index_mut.ensures.value
    (parameters-at c.args.staying.now c.index_mut.result.now _ _ c.renumber_param-stays.ensures.marked c.renumber_param-stays.ensures.renumbered) c.keep-kept.ensures

pub returns : goal.returns
returns c =
    c.truncate.ensures.items
    ∙ sym (map-id _)
    ∙ all_left c.loop-place.invariant c.loop-place-test.false c.len-place-end.ensures c.args.params.now.ok.0 refl
    ∙ ap (sliced_parameters c.args.staying.now) (map-id c.args.params.now.items)
