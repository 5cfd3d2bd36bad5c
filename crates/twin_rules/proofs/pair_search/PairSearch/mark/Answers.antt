-- One mark after the other, and all in the end.
use Rattle.std.proofs.Common.{ℕ, rules, refl, arith, ap, ◌∙◌, ◌||◌}
use Rattle.model_core.specs.Code.Views.{graph_of}
use Rattle.twin_rules.specs.Inner.ComparedPairs.{has_changed, some_leads}
use Rattle.twin_rules.proofs.Marking.{nothing-marked, one-more-marked, all-marked}
use Rattle.twin_rules.proofs.pair_search.PairSearch.mark.Goals as goal

pub loop-place-init : goal.loop-place-init
loop-place-init c = record { keep = refl; gone = refl; long = search rules; marked = nothing-marked (λ (k : ℕ). some_leads (graph_of c.args.model.now) k c.args.gone) c.args.gone c.args.self.now.changed }

pub loop-place-preserved : goal.loop-place-preserved
loop-place-preserved c =
    let so_far = c.loop-place.invariant.marked in
    let below = c.loop-place-test.true in
    let long = so_far.long in
    let limit = c.loop-place.invariant.long in
    record {
      keep = c.loop-place.invariant.keep;
      gone = c.loop-place.invariant.gone;
      long = limit;
      marked = one-more-marked (λ (k : ℕ). some_leads (graph_of c.args.model.now) k c.args.gone) c.args.gone c.args.self.now.changed c.loop-place.self.changed c.loop-place.place c.changes.result (omega (arith, below, long, limit))
          (c.changes.ensures ∙ ap (λ k. has_changed c.loop-place.self.changed k || some_leads (graph_of c.args.model.now) k c.args.gone) c.place_before.ensures) so_far;
    }

pub returns-clause-changed : goal.returns-clause-changed
returns-clause-changed c =
    let past = c.loop-place-test.false in
    let limit = c.loop-place.invariant.long in
    all-marked (λ (k : ℕ). some_leads (graph_of c.args.model.now) k c.args.gone) c.args.gone c.args.self.now.changed c.loop-place.self.changed c.loop-place.place (omega (arith, past, limit)) c.loop-place.invariant.marked
