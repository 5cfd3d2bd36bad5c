-- One item more, which stays or goes; at the end those that stay are left.
use Rattle.std.proofs.Common.{◌∙◌, map, ap}
use Rattle.model_core.specs.Code.Views.{expression_of}
use Rattle.var_slicing.proofs.LeftLists.{values-at, values-none}
use Rattle.mark_laws.proofs.LeftInPlace.{one_left, all_left}
use Rattle.var_slicing.proofs.dropping_variables.slice_values.Goals as goal

pub loop-place-preserved : goal.loop-place-preserved
loop-place-preserved g c =
    one_left c.loop-place.invariant c.index_mut.result.now _ c.stays_beside.result c.loop-place-test.true c.len-place-end.ensures c.args.values.now.ok.0 c.index_mut.ensures.value
    (values-at c.args.staying.now (g.V.HasVars.vars c.args.beside.now) c.loop-place.place (expression_of c.index_mut.result.now) _ _ c.stays_beside.ensures c.renumber_expr.ensures) c.keep-kept.ensures

pub returns : goal.returns
returns g c = ap (map expression_of) c.truncate.ensures.items ∙ all_left c.loop-place.invariant c.loop-place-test.false c.len-place-end.ensures c.args.values.now.ok.0 (values-none c.args.staying.now _)
