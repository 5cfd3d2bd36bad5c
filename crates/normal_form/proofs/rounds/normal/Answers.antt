-- A round that leaves the model as it is ends the rounds, and any other leads on.
use Rattle.std.proofs.Common.{◌≡◌, ℕ, suc, ◌+◌, ◌-◌, ◌<◌, ◌≤◌, refl, sym, subst, ◌∙◌, arith, true≢false}
use Rattle.model_core.specs.Code.Views.{graph_of}
use Rattle.normal_form.specs.declared.limits.TheConstants.{ROUNDS_MAX}
use Rattle.normal_form.specs.Normal.{Round, NormalWithin, no_round_left, left_as_it_is, after_a_round, Normal}
use Rattle.normal_form.proofs.rounds.normal.Goals as goal
use Rattle.normal_form.proofs.rounds.normal.Goals.{else-loop-test, then-loop-test+in_ok-before+in_ok-form+then-same_model}

-- a round fewer
one-fewer : (done : ℕ) → done < ROUNDS_MAX → suc (ROUNDS_MAX - (done + 1)) ≡ ROUNDS_MAX - done
one-fewer done few = omega (arith, few)

none-left : (done : ℕ) → ROUNDS_MAX ≤ done → done ≤ ROUNDS_MAX → 0 ≡ ROUNDS_MAX - done
none-left done ended most = omega (arith, ended, most)

pub loop-preserved : goal.loop-preserved
loop-preserved c =
    let before = graph_of c.loop.form in
    let after = graph_of c.in_ok-form.form in
    let round : Round before after = c.in_ok-form.ensures in
    let differs : (before ≡ after → ⊥) = λ same. true≢false (sym (c.if-same_model.ensures.1 (c.in_ok-before.ensures ∙ same))) in
    record {
      valid = c.rounds_keep_the_meaning.ensures.valid before after c.loop.invariant.valid round;
      leads = λ h within. c.loop.invariant.leads h (subst (λ n. NormalWithin n before h) (one-fewer c.loop.counter c.loop-test.true) (after_a_round after round differs within));
    }

pub returns : goal.returns
returns c = elim c.loop-test.branch [
  | else-loop-test w ↦
      let ended = w.loop-test.false in
      let most = c.loop.auto.counter-end in
      subst (λ m. Normal (graph_of c.args.model) (graph_of m)) (sym w.form-is)
      (c.loop.invariant.leads (graph_of c.loop.form) (subst (λ n. NormalWithin n (graph_of c.loop.form) (graph_of c.loop.form)) (none-left c.loop.counter ended most) no_round_left))
  | then-loop-test+in_ok-before+in_ok-form+then-same_model w ↦
      let before = graph_of c.loop.form in
      let round : Round before (graph_of w.in_ok-form.form) = w.in_ok-form.ensures in
      let same = sym w.in_ok-before.ensures ∙ w.if-same_model.ensures.0 refl in
      subst (λ m. Normal (graph_of c.args.model) (graph_of m)) (sym w.form-is)
      (c.loop.invariant.leads (graph_of w.in_ok-form.form)
      (subst (λ n. NormalWithin n before (graph_of w.in_ok-form.form)) (one-fewer c.loop.counter w.loop-test.true)
      (subst (λ g. NormalWithin (suc (ROUNDS_MAX - (c.loop.counter + 1))) before g) same (left_as_it_is (subst (Round before) (sym same) round)))))
]
