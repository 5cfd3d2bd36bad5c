-- Ranges are kept, are put back, or one is replaced.
use Rattle.std.proofs.Common.{◌≡◌, length, slice_set, ℤ, Some, List, reverse, refl, sym, ◌∙◌, ap, ap₂, subst, arith, rules, FitsSigned, w64}
use Rattle.std.specs.Int.{w128}
use Rattle.std.proofs.lemmas.Int.{to_z-of_z}
use Rattle.model_core.specs.EventGraph.{Variable}
use Rattle.model_core.specs.Code.Views.{operator_of}
use Rattle.model_core.specs.Rules.BoundsOf.{ranged_at}
use Rattle.model_core.specs.Ranges.Refined.{where_holds}
use Rattle.range_infer.specs.declared.postfix.PostfixItem.{PostfixItem}
use Rattle.range_infer.specs.declared.postfix.PostfixItem.TheVariants as items
use Rattle.range_infer.specs.Inner.KeptRanges.{LeftOnWalk}
use Rattle.range_infer.specs.Inner.Postfix.{signed_number, walked}
use Rattle.range_infer.proofs.KeptBack.{last_kept, one_left}
use Rattle.range_infer.proofs.postfix_bounds.ranges_after.Goals as goal

pub returns-in_ok-push-in-Kept : goal.returns-in_ok-push-in-Kept
returns-in_ok-push-in-Kept c = λ first w is on_walk.
    let now = c.args.left.now in
    let many : c.len.result ≡ length now.replaced.items = omega (arith, c.len.ensures, now.replaced.ok.0) in
    subst (λ (i : PostfixItem). LeftOnWalk first now (reverse c.push.new.self.items) (walked w i)) (sym c.in-Kept.is)
    (last_kept first now c.args.kept.now.items c.push.new.self.items c.len.result w c.in_ok-push-in-Kept.ensures.items many on_walk)

pub returns-in-PutBack : goal.returns-in-PutBack
returns-in-PutBack c = λ first w is on_walk.
    subst (λ (i : PostfixItem). LeftOnWalk first c.put_back.new.left (reverse c.put_back.new.kept.items) (walked w i)) (sym c.in-PutBack.is) (c.put_back.ensures first w on_walk)

pub returns-in_ok-refine_scalar-in-Left : goal.returns-in_ok-refine_scalar-in-Left
returns-in_ok-refine_scalar-in-Left c = λ first w is on_walk.
    let next = c.refine_scalar.new.left in
    let op = operator_of c.in-Left.op in
    let v = c.in-Left.var in
    let after = walked w (items.Left c.in-Left.op v c.in-Left.negative c.in-Left.n) in
    let wide : FitsSigned w128 c.signed_number.result = search rules in
    let narrow : FitsSigned w64 c.in-Left.n = search rules in
    let number = to_z-of_z _ _ wide ∙ (c.signed_number.ensures.value ∙ ap (signed_number c.in-Left.negative) (to_z-of_z _ _ narrow)) in
    let left = c.in_ok-refine_scalar-in-Left.ensures.left
    ∙ ap₂ (λ (rs : List Variable) (n : ℤ). slice_set rs v (where_holds op (Some n) (ranged_at rs v))) on_walk.ranges number in
    subst (λ (i : PostfixItem). LeftOnWalk first next (reverse c.args.kept.now.items) (walked w i)) (sym c.in-Left.is)
    (one_left first c.args.left.now next (reverse c.args.kept.now.items) w after left refl c.in_ok-refine_scalar-in-Left.ensures.back on_walk)
