-- One more target, with the value beside it, or no value is looked at.
use Rattle.std.proofs.Common.{refl, ◌++◌, ◌∷◌, [], ◌∙◌, ◌<◌, sym, ap, append-nil, map, drop, length, List, arith}
use Rattle.std.specs.List.{list_any}
use Rattle.model_core.specs.declared.incoming.Incoming.{Incoming}
use Rattle.model_core.specs.EventGraph.{Location, Variable}
use Rattle.model_core.specs.Code.Views.{location_of, expression_of}
use Rattle.range_infer.specs.Inner.RangesLeft.{variables_left}
use Rattle.range_infer.specs.Inner.LookedAt.{looks_at_value, assigned_seen}
use Rattle.range_infer.proofs.KeptBack.{itself}
use Rattle.range_infer.proofs.RestoredRanges.{same_variables, stays-trans}
use Rattle.range_infer.proofs.AssignedBeside.{nothing_seen, one_seen, all_given, target_at, many_targets}
use Rattle.range_infer.proofs.collecting.add_targets.Goals as goal

pub loop-place-preserved : goal.loop-place-preserved
loop-place-preserved c =
    let look = c.args.look.now in
    let es = map expression_of c.args.values.now in
    let vars = map (λ (t : Location). t.variable) (map location_of c.args.targets.now) in
    let p = c.loop-place.place in
    let t = c.index-targets-place.result in
    let small : p < length vars = omega (arith, c.loop-place-test.true, many_targets c.args.targets.now) in
    let stays = same_variables c.args.left.now c.loop-place.left c.loop-place.invariant.left in
    let added = c.in_ok-add_value.ensures.out ∙ ap (λ (rs : List Variable). c.loop-place.out.items ++ assigned_seen look.all look.moved.now rs (t.var ∷ []) (drop p es)) stays in
    record {
      out = one_seen look.all look.moved.now (variables_left c.args.left.now) vars es p t.var c.loop-place.out.items c.add_value.new.out.items _ small (target_at c.args.targets.now p t c.loop-place-test.true c.index-targets-place.is) added c.loop-place.invariant.out;
      left = stays-trans c.args.left.now c.loop-place.left c.add_value.new.left c.loop-place.invariant.left c.in_ok-add_value.ensures.left;
    }

pub returns-then-not-looks_at_one-clause-out : goal.returns-then-not-looks_at_one-clause-out
returns-then-not-looks_at_one-clause-out c =
    let look = c.args.look.now in
    let none = ap (list_any (looks_at_value look.all look.moved.now)) (sym c.requires.reads) ∙ (sym c.looks_at_one.ensures ∙ c.if-not-looks_at_one.true) in
    sym (append-nil c.args.out.now.items)
    ∙ ap (λ (is : List Incoming). c.args.out.now.items ++ is)
    (sym (nothing_seen look.all look.moved.now (variables_left c.args.left.now) (map (λ (l : Location). l.variable) (map location_of c.args.targets.now)) (map expression_of c.args.values.now) none))

pub loop-place-init : goal.loop-place-init
loop-place-init c = record { out = refl; left = itself c.args.left.now }

pub returns-clause-out : goal.returns-clause-out
returns-clause-out c = all_given c.args.look.now.all c.args.look.now.moved.now (variables_left c.args.left.now) (map (λ (t : Location). t.variable) (map location_of c.args.targets.now)) (map expression_of c.args.values.now) c.loop-place.place c.loop-place.out.items _ (omega (arith, c.loop-place-test.false, many_targets c.args.targets.now)) c.loop-place.invariant.out
