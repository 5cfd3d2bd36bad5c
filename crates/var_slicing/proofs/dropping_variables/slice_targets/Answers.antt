-- One item more, which stays or goes; at the end those that stay are left.
use Rattle.std.proofs.Common.{◌∙◌, map, refl, ap}
use Rattle.model_core.specs.Code.Views.{location_of}
use Rattle.var_slicing.proofs.LeftLists.{targets-at}
use Rattle.mark_laws.proofs.LeftInPlace.{one_left, all_left}
use Rattle.var_slicing.proofs.dropping_variables.slice_targets.Goals as goal

pub loop-place-preserved : goal.loop-place-preserved
loop-place-preserved c =
    one_left c.loop-place.invariant c.index_mut.result.now _ c.renumber_kept_target-stays.result c.loop-place-test.true c.len-place-end.ensures c.args.targets.now.ok.0 c.index_mut.ensures.value
    (targets-at c.args.staying.now (location_of c.index_mut.result.now) _ _ c.renumber_kept_target-stays.ensures.marked c.renumber_kept_target-stays.ensures.renumbered) c.keep-kept.ensures

pub returns : goal.returns
returns c = ap (map location_of) c.truncate.ensures.items ∙ all_left c.loop-place.invariant c.loop-place-test.false c.len-place-end.ensures c.args.targets.now.ok.0 refl
