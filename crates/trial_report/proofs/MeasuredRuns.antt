-- The measure of a run that was followed from its beginning.
use Rattle.std.proofs.Common.{◌≡◌, ℕ, ◌+◌, ◌-◌, ◌<◌, ◌≤◌, List, [], ◌++◌, length, Option, None, refl, sym, ap, ap₂, ◌∙◌, subst, append-nil, arith}
use Rattle.sig_base.specs.declared.limits.TheConstants.{EVENTS_MAX}
use Rattle.model_core.specs.declared.model.Model.{Model}
use Rattle.model_core.specs.Run.Step.{Configuration}
use Rattle.model_core.specs.Run.Machine.{Note}
use Rattle.model_core.specs.Run.History.{Moment, start, next_move, look_from}
use Rattle.model_core.specs.Code.Views.{graph_of}
use Rattle.run_control.specs.Beginning.{BegunRun}
use Rattle.run_control.specs.Running.{Running}
use Rattle.watch_trace.specs.declared.outcome.Outcome.{Outcome}
use Rattle.watch_trace.specs.declared.outcome.Outcome.TheVariants as outcomes
use Rattle.watch_trace.specs.Tracing.{Tracing, moment_of}
use Rattle.watch_trace.specs.Following.{outcome_of, run_look, Completes, StepsLead, FollowKeeps}
use Rattle.trial_report.specs.StepsMade.{steps_made}
use Rattle.trial_report.specs.Inner.Counted.{CountsNotes}
use Rattle.trial_report.specs.Inner.RunMeasures.{IsMeasureOf}
use Rattle.trial_report.proofs.StepsCounted.{from_there, none_at_rest, one_at_fault}
use Rattle.trial_report.proofs.FewNotes.{few_notes}

module _ (until events : ℕ) (r later : Running) (t after : Tracing) (from : r.turns ≡ 0) (keeps : FollowKeeps events r t later after) where
  -- the machine of the run
  abbrev Steps : ℕ → Moment → ℕ
  Steps = steps_made (next_move (graph_of r.model) r.seed until)

  -- where no step is left to make, those that led here are all
  all-steps : (k n : ℕ) (here : Moment) → Steps events (moment_of r t) ≡ k + Steps n here → Steps n here ≡ 0 → Steps events (moment_of r t) ≡ k
  all-steps k n here e none = e ∙ ap (λ x. k + x) none ∙ omega arith

  made : (outcome : Outcome) → (outcome ≡ outcomes.WriteFault → ⊥) → (outcome ≡ outcomes.NoMemory → ⊥) → StepsLead until events r t outcome later after → later.turns ≡ Steps events (moment_of r t)
  made (outcomes.Ended time) well roomy p =
      let counts = p.after_steps.0.counts in
      let few : p.steps ≤ events = omega (arith, counts, from, keeps.counted) in
      let rests = none_at_rest (next_move (graph_of r.model) r.seed until) (events - p.steps) p.here.moment p.after_steps.1.notes _ p.after_steps.1.rests in
      let all = all-steps p.steps (events - p.steps) p.here.moment (from_there (next_move (graph_of r.model) r.seed until) p.steps events (moment_of r t) p.here p.lead few) rests in
      omega (arith, counts, from, all)
  made outcomes.Stopped well roomy p =
      let counts = p.after_steps.0.counts in
      let few : p.steps ≤ events = omega (arith, counts, from, keeps.counted) in
      let rests = none_at_rest (next_move (graph_of r.model) r.seed until) (events - p.steps) p.here.moment p.after_steps.1.notes _ p.after_steps.1.rests in
      let all = all-steps p.steps (events - p.steps) p.here.moment (from_there (next_move (graph_of r.model) r.seed until) p.steps events (moment_of r t) p.here p.lead few) rests in
      omega (arith, counts, from, all)
  made (outcomes.Faulted time kind) well roomy p =
      let counts = p.after_steps.0.counts in
      let few : p.steps ≤ events = omega (arith, counts, from, keeps.counted) in
      let left : 0 < events - p.steps = omega (arith, counts, from, keeps.counted) in
      let fails = one_at_fault (next_move (graph_of r.model) r.seed until) (events - p.steps) p.here.moment p.after_steps.0.notes _ left p.after_steps.0.fails in
      let all = from_there (next_move (graph_of r.model) r.seed until) p.steps events (moment_of r t) p.here p.lead few in
      omega (arith, counts, from, all, fails)
  made outcomes.Budget well roomy p =
      let counts = p.after_steps.0.counts in
      let few : p.steps ≤ events = omega (arith, counts, from, keeps.counted) in
      let spent : events - p.steps ≡ 0 = let is = p.after_steps.1 in omega (arith, is) in
      let all = all-steps p.steps (events - p.steps) p.here.moment (from_there (next_move (graph_of r.model) r.seed until) p.steps events (moment_of r t) p.here p.lead few) (ap (λ n. Steps n p.here.moment) spent) in
      omega (arith, counts, from, all)
  made outcomes.WriteFault well roomy p = absurd (well refl)
  made outcomes.NoMemory well roomy p = absurd (roomy refl)

  completed-so : (outcome : Outcome) (rest : List Note) → (outcome ≡ outcomes.WriteFault → ⊥) → (outcome ≡ outcomes.NoMemory → ⊥) → Completes (run_look until events r t) rest outcome
      → (outcome ≡ outcome_of (run_look until events r t).standing) × (rest ≡ [])
  completed-so (outcomes.Ended time) rest well roomy p = p
  completed-so outcomes.Stopped rest well roomy p = p
  completed-so (outcomes.Faulted time kind) rest well roomy p = p
  completed-so outcomes.Budget rest well roomy p = p
  completed-so outcomes.WriteFault rest well roomy p = absurd (well refl)
  completed-so outcomes.NoMemory rest well roomy p = absurd (roomy refl)

-- a run at its beginning, with a tracer that noted nothing
at-start : (m : Model) (seed room : ℕ) (r : Running) (t : Tracing) → BegunRun m seed [] room r → t.noted ≡ None → moment_of r t ≡ start (graph_of r.model) []
at-start m seed room r t begun noted =
    let moment : Configuration → Option _ → Moment = λ c n. record { now = c; noted = n } in
    ap₂ moment (begun.now ∙ ap (λ (n : Model). (start (graph_of n) []).now) (sym begun.model)) noted

pub run_measured : (m : Model) (room until events : ℕ) (r later : Running) (t after : Tracing) (outcome : Outcome) (count : ℕ) (notes rest : List Note)
    → BegunRun m r.seed [] room r → t.noted ≡ None → events ≤ EVENTS_MAX → (outcome ≡ outcomes.WriteFault → ⊥) → (outcome ≡ outcomes.NoMemory → ⊥)
    → notes ++ rest ≡ (run_look until events r t).history → Completes (run_look until events r t) rest outcome → CountsNotes 0 count notes
    → StepsLead until events r t outcome later after → FollowKeeps events r t later after
    → IsMeasureOf (graph_of m) r.seed until events (record { outcome = outcome; events = later.turns; notes = count })
run_measured m room until events r later t after outcome count notes rest begun noted few well roomy splits completes counted leads_so keeps =
    let (is, none) = completed-so until events r later t after begun.turns keeps outcome rest well roomy completes in
    let whole : notes ≡ (run_look until events r t).history = sym (append-nil notes) ∙ ap (λ (x : List Note). notes ++ x) (sym none) ∙ splits in
    let short = few_notes (graph_of r.model) r.seed until events (moment_of r t) in
    let long : length notes ≡ length (run_look until events r t).history = ap length whole in
    let number : count ≡ length (run_look until events r t).history = omega (arith, counted, short, long, few) in
    let begins : moment_of r t ≡ start (graph_of r.model) [] = at-start m r.seed room r t begun noted in
    subst (λ (x : Model). IsMeasureOf (graph_of x) r.seed until events (record { outcome = outcome; events = later.turns; notes = count })) begun.model
    (record {
      outcome = is ∙ ap (λ (b : Moment). outcome_of (look_from (graph_of r.model) r.seed until events b).standing) begins;
      made = made until events r later t after begun.turns keeps outcome well roomy leads_so ∙ ap (steps_made (next_move (graph_of r.model) r.seed until) events) begins;
      noted = number ∙ ap (λ (b : Moment). length (look_from (graph_of r.model) r.seed until events b).history) begins;
    })
