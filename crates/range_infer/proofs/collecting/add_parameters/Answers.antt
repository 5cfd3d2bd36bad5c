-- One more parameter, with the value beside it.
use Rattle.std.proofs.Common.{◌++◌, ◌∷◌, [], ◌∙◌, ap, refl, map, drop, slice_index_or, List}
use Rattle.model_core.specs.EventGraph.{Variable}
use Rattle.model_core.specs.Code.Views.{expression_of}
use Rattle.range_infer.specs.Inner.RangesLeft.{variables_left}
use Rattle.range_infer.specs.Inner.LookedAt.{assigned_seen}
use Rattle.range_infer.proofs.KeptBack.{itself}
use Rattle.range_infer.proofs.RestoredRanges.{same_variables, stays-trans}
use Rattle.range_infer.proofs.AssignedBeside.{one_seen, all_given}
use Rattle.range_infer.proofs.collecting.add_parameters.Goals as goal

pub loop-place-preserved : goal.loop-place-preserved
loop-place-preserved c =
    let look = c.args.look.now in
    let es = map expression_of c.args.values.now in
    let p = c.loop-place.place in
    let v = slice_index_or c.args.params.now p 0 in
    let stays = same_variables c.args.left.now c.loop-place.left c.loop-place.invariant.left in
    let added = c.in_ok-add_value.ensures.out ∙ ap (λ (rs : List Variable). c.loop-place.out.items ++ assigned_seen look.all look.moved.now rs (v ∷ []) (drop p es)) stays in
    record {
      out = one_seen look.all look.moved.now (variables_left c.args.left.now) c.args.params.now es p v c.loop-place.out.items c.add_value.new.out.items _ c.loop-place-test.true refl added c.loop-place.invariant.out;
      left = stays-trans c.args.left.now c.loop-place.left c.add_value.new.left c.loop-place.invariant.left c.in_ok-add_value.ensures.left;
    }

pub loop-place-init : goal.loop-place-init
loop-place-init c = record { out = refl; left = itself c.args.left.now }

pub returns-clause-out : goal.returns-clause-out
returns-clause-out c = all_given c.args.look.now.all c.args.look.now.moved.now (variables_left c.args.left.now) c.args.params.now (map expression_of c.args.values.now) c.loop-place.place c.loop-place.out.items _ c.loop-place-test.false c.loop-place.invariant.out
