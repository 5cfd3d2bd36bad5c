-- One mark after the other, and all in the end.
use Rattle.std.proofs.Common.{ℕ, false, rules, arith, sym, ap, ◌∙◌}
use Rattle.twin_rules.specs.Inner.ComparedPairs.{has_changed, place_before}
use Rattle.twin_rules.proofs.Marking.{nothing-marked, one-more-marked, all-marked, or-false}
use Rattle.twin_rules.proofs.marks.Marks.forget.Goals as goal

pub loop-place-init : goal.loop-place-init
loop-place-init c = record { long = search rules; marked = nothing-marked (λ (k : ℕ). false) c.args.gone c.args.self.now.marks }

pub loop-place-preserved : goal.loop-place-preserved
loop-place-preserved c =
    let so_far = c.loop-place.invariant.marked in
    let below = c.loop-place-test.true in
    let long = so_far.long in
    let limit = c.loop-place.invariant.long in
    record {
      long = limit;
      marked = one-more-marked (λ (k : ℕ). false) c.args.gone c.args.self.now.marks c.loop-place.self.marks c.loop-place.place c.has.result (omega (arith, below, long, limit))
          ((c.has.ensures ∙ ap (has_changed c.loop-place.self.marks) c.place_before.ensures) ∙ or-false (has_changed c.loop-place.self.marks (place_before c.args.gone c.loop-place.place))) so_far;
    }

pub returns : goal.returns
returns c = λ x.
    let past = c.loop-place-test.false in
    let limit = c.loop-place.invariant.long in
    all-marked (λ (k : ℕ). false) c.args.gone c.args.self.now.marks c.loop-place.self.marks c.loop-place.place (omega (arith, past, limit)) c.loop-place.invariant.marked x
    ∙ sym (or-false (has_changed c.args.self.now.marks (place_before c.args.gone x)))
