-- One draw more.
use Rattle.std.proofs.Common.{ℕ, List, drop, suc, sym, ap, ◌∙◌, add-one}
use Rattle.std.proofs.Math.Seq.{drop-cons}
use Rattle.var_slicing.specs.Inner.Leading.{leaders_after}
use Rattle.var_slicing.proofs.streams.leaders_of.Goals as goal

pub loop-draw-preserved : goal.loop-draw-preserved
loop-draw-preserved c =
    let draws = c.args.draws.now in
    let i = c.loop-draw.draw-index in
    rw add-one
    (ap (λ (leaders : List (ℕ × ℕ)). leaders_after c.args.count leaders (drop (suc i) draws)) c.in_ok-add_leader.ensures
    ∙ sym (ap (leaders_after c.args.count c.loop-draw.leaders.items) (drop-cons draws i (0, 0) c.loop-draw-test.true))
    ∙ c.loop-draw.invariant)
