-- One place after the other is passed over.
use Rattle.std.proofs.Common.{arith}
use Rattle.model_core.specs.Code.Views.{graph_of}
use Rattle.twin_rules.proofs.PairsSearched.{passed-on}
use Rattle.twin_rules.proofs.later_candidates.next_candidate.Goals as goal

pub loop-gone-init : goal.loop-gone-init
loop-gone-init c = record { at_least = c.next-gone.ensures.at_least; passed = λ y at less. c.requires.asked c.args.keep y (c.next-gone.ensures.asked y at less) }

pub loop-gone-preserved : goal.loop-gone-preserved
loop-gone-preserved c =
    let g = graph_of c.args.model.now in
    let so_far = c.loop-gone.invariant in
    let further = c.next-gone-in-loop-gone.ensures.at_least in
    let at_least = so_far.at_least in
    record {
      at_least = omega (arith, further, at_least);
      passed = passed-on g c.args.keep c.args.from c.loop-gone.gone c.next-gone-in-loop-gone.result so_far.passed (c.may_do_the_same.ensures g c.requires.prints c.if-not-may_do_the_same.true)
          (λ y at less. c.requires.asked c.args.keep y (c.next-gone-in-loop-gone.ensures.asked y at less));
    }
