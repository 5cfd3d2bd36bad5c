-- One more is put back.
use Rattle.std.proofs.Common.{◌<◌, ◌∙◌, length, arith}
use Rattle.range_infer.proofs.RestoredRanges.{one_put_back}
use Rattle.range_infer.proofs.refinement.restore_ranges.Goals as goal

pub loop-left-preserved-in-Some : goal.loop-left-preserved-in-Some
loop-left-preserved-in-Some c =
    let l = c.loop-left.left in
    let before = c.loop-left.invariant in
    let some : c.args.replaced < length l.replaced.items = omega (arith, c.loop-left-test.true, c.len.ensures, l.replaced.ok) in
    let step = one_put_back c.args.replaced l.ranges.items c.put_range.new.ranges.items l.replaced.items c.pop.new.self.items c.in-Some.last some c.in-Some.ensures.items c.put_range.ensures in
    record { model = before.model; before = step.0 ∙ before.before; back = step.1 ∙ before.back }
