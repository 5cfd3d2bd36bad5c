-- One item more is walked over.
use Rattle.std.proofs.Common.{List, [], ◌∷◌, ◌+◌, take, reverse, pos, refl, sym, ◌∙◌, ap, subst, ℕ, Vec, Global}
use Rattle.std.specs.List.{fold}
use Rattle.std.proofs.lemmas.List.{take_all}
use Rattle.range_infer.specs.declared.postfix.PostfixItem.{PostfixItem}
use Rattle.range_infer.specs.declared.postfix.PostfixItem.TheVariants as items
use Rattle.model_core.specs.declared.bounds.Bounds.{Bounds}
use Rattle.range_infer.specs.Inner.RangesLeft.{variables_left}
use Rattle.range_infer.specs.Inner.KeptRanges.{LeftOnWalk}
use Rattle.range_infer.specs.Inner.Postfix.{Walk, walked}
use Rattle.range_infer.proofs.KeptBack.{itself, begins, all-back}
use Rattle.range_infer.proofs.PostfixBounds.{walk, last_is}
use Rattle.range_infer.proofs.OneItem.{ranges_more, operand_more, same_walk}
use Rattle.range_infer.proofs.postfix_bounds.walk_over.Goals as goal
use Rattle.range_infer.proofs.postfix_bounds.walk_over.Goals.{then-is_of_ranges+in_ok-ranges_after, else-is_of_ranges+in_ok-last}

pub loop-item-init : goal.loop-item-init
loop-item-init c =
    let first = c.args.left.now in
    let w : Walk = record { ranges = variables_left first; kept = []; found = c.number_bounds-last.result ∷ reverse c.args.before.now.items } in
    record {
      found = refl;
      on_walk = subst (λ (ns : List ℕ). LeftOnWalk first first ns w) (sym (ap reverse c.requires)) (begins first first w (itself first) refl refl);
    }

pub loop-item-preserved : goal.loop-item-preserved
loop-item-preserved c =
    let first = c.args.left.now in
    let w : Walk = record { ranges = variables_left first; kept = []; found = c.number_bounds-last.result ∷ reverse c.args.before.now.items } in
    let xs = c.args.items.now in
    let i = c.loop-item.item-index in
    let d : PostfixItem = items.Number (pos 0) in
    let now = c.loop-item in
    let next = c.if-is_of_ranges in
    let so_far = now.invariant in
    elim next.branch [
      | then-is_of_ranges+in_ok-ranges_after t ↦
          let more = ranges_more first w xs i d c.loop-item-test.true now.left now.before.items now.kept.items now.last so_far (sym c.is_of_ranges.ensures ∙ t.if-is_of_ranges.true) t.ranges_after.new.left t.ranges_after.new.kept.items t.in_ok-ranges_after.ensures in
          same_walk first (walk w (take (i + 1) xs)) t.ranges_after.new.left next.left now.before.items next.before.items t.ranges_after.new.kept.items next.kept.items now.last next.last (sym t.left-is) (sym (ap (λ (v : Vec Bounds Global). v.items) t.before-is)) (sym (ap (λ (v : Vec ℕ Global). v.items) t.kept-is)) (sym t.last-is) more
      | else-is_of_ranges+in_ok-last t ↦
          let more = operand_more first w xs i d c.loop-item-test.true now.left now.before.items now.kept.items now.last so_far (sym c.is_of_ranges.ensures ∙ t.if-is_of_ranges.false) t.after_item.new.before.items t.in_ok-last.last t.in_ok-last.ensures in
          same_walk first (walk w (take (i + 1) xs)) now.left next.left t.after_item.new.before.items next.before.items now.kept.items next.kept.items t.in_ok-last.last next.last (sym t.left-is) (sym (ap (λ (v : Vec Bounds Global). v.items) t.before-is)) (sym (ap (λ (v : Vec ℕ Global). v.items) t.kept-is)) (sym t.last-is) more
    ]

pub returns-clause-found : goal.returns-clause-found
returns-clause-found c = λ e are.
    let rs = variables_left c.args.left.now in
    let before = c.number_bounds-last.result ∷ reverse c.args.before.now.items in
    let w : Walk = record { ranges = rs; kept = []; found = before } in
    last_is e rs c.args.items.now are before c.loop-item.last (reverse c.loop-item.before.items)
    (c.loop-item.invariant.found ∙ ap (λ (xs : List PostfixItem). (fold walked w xs).found) (take_all c.loop-item.item-index c.args.items.now c.loop-item-test.false))

pub returns-clause-back : goal.returns-clause-back
returns-clause-back c = all-back c.args.left.now c.loop-item.left (reverse c.loop-item.kept.items) _ c.loop-item.invariant.on_walk.kept
