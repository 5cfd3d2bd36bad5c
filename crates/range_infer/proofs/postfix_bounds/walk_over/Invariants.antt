use Rattle.std.proofs.Common.{[], ◌∷◌, take, reverse}
use Rattle.range_infer.specs.Inner.RangesLeft.{variables_left}
use Rattle.range_infer.specs.Inner.Postfix.{Walk}
use Rattle.range_infer.proofs.PostfixBounds.{walk}
use Rattle.range_infer.proofs.OneItem.{WalkedOver}
use Rattle.range_infer.proofs.postfix_bounds.walk_over.Given as goal

abbrev pub invariant-loop-item : goal.invariant-loop-item
invariant-loop-item l =
    let first : Walk = record { ranges = variables_left l.initial.left; kept = []; found = l.initial.last ∷ reverse l.initial.before.items } in
    WalkedOver l.initial.left (walk first (take l.item-index l.items)) l.left l.before.items l.kept.items l.last
