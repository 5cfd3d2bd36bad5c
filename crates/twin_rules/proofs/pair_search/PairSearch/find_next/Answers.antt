-- One place before the other, and all in the end.
use Rattle.std.proofs.Common.{refl, rules, arith, sym, ◌∙◌, ap, subst, cond, set, ◌≡◌, ◌-◌, ◌+◌, ◌≤◌, ℕ, List, Bool}
use Rattle.std.proofs.lemmas.List.{length-set}
use Rattle.sig_base.specs.declared.limits.TheConstants.{VERTICES_MAX}
use Rattle.twin_rules.specs.Inner.ComparedPairs.{has_changed}
use Rattle.twin_rules.proofs.SkippedPlaces.{SkipsFrom, skips-nothing, one-before, either-small}
use Rattle.twin_rules.proofs.pair_search.PairSearch.find_next.Goals as goal

pub loop-step-init : goal.loop-step-init
loop-step-init c = record { keep = refl; gone = refl; changed = refl; small = omega arith; long = search rules; skips = skips-nothing c.args.self.now.changed c.args.self.now.next VERTICES_MAX (search rules) }

pub loop-step-preserved : goal.loop-step-preserved
loop-step-preserved c =
    let so_far = c.loop-step.invariant in
    let changed = c.args.self.now.changed in
    let next = c.loop-step.self.next in
    let ahead = c.loop-step.next in
    let step = c.loop-step.step in
    let below = c.loop-step-test.true in
    let place : ℕ = VERTICES_MAX - 1 - step in
    let long = so_far.long in
    let there : VERTICES_MAX - step ≡ place + 1 = omega (arith, below) in
    let here : place ≡ VERTICES_MAX - (step + 1) = omega (arith, below) in
    let is : c.next_from-next.result ≡ cond (has_changed changed place) place ahead = c.next_from-next.ensures ∙ ap (λ (marks : List Bool). cond (has_changed marks place) place ahead) so_far.changed in
    record {
      keep = so_far.keep;
      gone = so_far.gone;
      changed = so_far.changed;
      small = subst (λ (r : ℕ). r ≤ VERTICES_MAX) (sym is) (either-small (has_changed changed place) place ahead (omega arith) so_far.small);
      long = length-set next place c.next_from-next.result ∙ long;
      skips = subst (λ (r : ℕ). SkipsFrom changed (set next place r) (VERTICES_MAX - (step + 1)) r) (sym is)
          (subst (λ (n : ℕ). SkipsFrom changed (set next place (cond (has_changed changed place) place ahead)) n (cond (has_changed changed place) place ahead)) here
          (one-before changed next place ahead (omega (arith, below, long)) (subst (λ (n : ℕ). SkipsFrom changed next n ahead) there so_far.skips)));
    }

pub returns-clause-skips : goal.returns-clause-skips
returns-clause-skips c = λ v k at_least less.
    let past = c.loop-step-test.false in
    ap (λ (marks : List Bool). has_changed marks k) c.loop-step.invariant.changed ∙ c.loop-step.invariant.skips.far v k (omega (arith, past)) at_least less
