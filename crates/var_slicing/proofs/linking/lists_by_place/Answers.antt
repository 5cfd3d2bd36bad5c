-- One pair more.
use Rattle.std.proofs.Common.{ℕ, List, drop, suc, sym, ap, ◌∙◌, add-one}
use Rattle.std.proofs.Math.Seq.{drop-cons}
use Rattle.var_slicing.specs.Inner.Linking.{lists_of_pairs}
use Rattle.var_slicing.proofs.linking.lists_by_place.Goals as goal

pub loop-pair-preserved : goal.loop-pair-preserved
loop-pair-preserved c =
    let pairs = c.args.pairs.now in
    let i = c.loop-pair.pair-index in
    rw add-one
    (ap (lists_of_pairs (drop (suc i) pairs)) c.in_ok-link.ensures
    ∙ sym (ap (λ (ps : List (ℕ × ℕ)). lists_of_pairs ps c.loop-pair.lists.items) (drop-cons pairs i (0, 0) c.loop-pair-test.true))
    ∙ c.loop-pair.invariant)
