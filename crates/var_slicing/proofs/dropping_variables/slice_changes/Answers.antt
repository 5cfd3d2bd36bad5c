-- One item more, which stays or goes; at the end those that stay are left.
use Rattle.std.proofs.Common.{◌∙◌, List, ◌++◌, map, refl, sym, ap}
use Rattle.std.specs.List.{flat_map}
use Rattle.model_core.specs.EventGraph.{StateChange}
use Rattle.model_core.specs.Rules.Slice.{sliced_change}
use Rattle.model_core.specs.Code.Views.{change_of}
use Rattle.mark_laws.proofs.LeftInPlace.{one_left, all_left}
use Rattle.var_slicing.proofs.dropping_variables.slice_changes.Goals as goal

pub loop-place-preserved : goal.loop-place-preserved
loop-place-preserved c =
    one_left c.loop-place.invariant c.index_mut.result.now _ c.slice_change-stays.result c.loop-place-test.true c.len-place-end.ensures c.args.changes.now.ok.0 c.index_mut.ensures.value
    (λ later. ap (λ (cs : List StateChange). cs ++ flat_map (sliced_change c.args.staying.now) later) (sym c.slice_change-stays.ensures)) c.keep-kept.ensures

pub returns : goal.returns
returns c = ap (map change_of) c.truncate.ensures.items ∙ all_left c.loop-place.invariant c.loop-place-test.false c.len-place-end.ensures c.args.changes.now.ok.0 refl
