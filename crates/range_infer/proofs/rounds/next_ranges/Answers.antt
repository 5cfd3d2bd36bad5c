use Rattle.std.proofs.Common.{◌<◌, ◌∙◌, length, arith}
use Rattle.model_core.specs.Code.Views.{graph_of}
use Rattle.model_core.specs.Ranges.Inference.{next_range}
use Rattle.range_infer.proofs.GrownRanges.{next_given}
use Rattle.range_infer.proofs.Numbered.{numbered-more}
use Rattle.range_infer.proofs.rounds.next_ranges.Goals as goal

pub loop-place-preserved : goal.loop-place-preserved
loop-place-preserved c = λ takes is.
    let g = graph_of c.args.model.now in
    let v = c.loop-place.place in
    let small : v < length c.args.ranges.now = omega (arith, c.loop-place-test.true, c.len-place-end.ensures, c.requires.many) in
    numbered-more (next_range g c.args.late takes c.args.ranges.now) v c.loop-place.next.items c.push.new.self.items c.next_range.result (c.loop-place.invariant takes is)
    (c.next_range.ensures ∙ next_given g c.args.late c.args.ranges.now c.args.grown.now takes v small is) c.in_ok-push.ensures.items
