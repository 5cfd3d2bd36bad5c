-- One mark more is taken away.
use Rattle.std.proofs.Common.{rules, ◌≡◌, ◌∙◌, true}
use Rattle.std.specs.Prelude.{replicate}
use Rattle.edge_pruning.proofs.PlacesLeftOut.{none-left-out, next-left-out}
use Rattle.edge_pruning.proofs.dropping.marks_without.Goals as goal

pub loop-place-init : goal.loop-place-init
loop-place-init c =
    let all : c.in_ok-marks.marks.items ≡ replicate c.args.count true = search rules in
    all ∙ none-left-out c.args.count

pub loop-place-preserved : goal.loop-place-preserved
loop-place-preserved c = next-left-out c.args.gone.now c.loop-place.place-index _ c.args.count _ _ c.loop-place-test.true c.unmark.ensures c.loop-place.invariant
