-- From a run that was followed to what is saved of it, and the laws of the answer of `save`.
use Rattle.std.proofs.Common.{◌≡◌, inr, ℕ, ◌++◌, ◌<◌, ℤ, Bool, true, false, cond, List, length, Option, Some, None, refl, sym, ap, ap₂, ◌∙◌, subst, arith}
use Rattle.std.specs.Prelude.{IsTrue, nat_le}
use Rattle.std.proofs.lemmas.Option.{same_Some}
use Rattle.sig_base.specs.declared.limits.TheConstants.{DOCUMENT_MAX}
use Rattle.command_words.specs.declared.reading.ModelJob.TheVariants.{Save}
use Rattle.command_words.specs.declared.reading.Reading.TheVariants.{Model as OfModel}
use Rattle.command_words.specs.declared.save_options.SaveOptions.{SaveOptions}
use Rattle.model_core.specs.declared.model.Model.{Model}
use Rattle.model_core.specs.Run.Step.{Configuration}
use Rattle.model_core.specs.Text.SnapshotText.{snapshot_text}
use Rattle.model_core.specs.Saved.Resuming.{Resumes}
use Rattle.model_core.specs.Saved.GoingOn.{GoesOn}
use Rattle.run_control.specs.Beginning.{BegunRun}
use Rattle.run_control.specs.Running.{Running}
use Rattle.watch_trace.specs.declared.outcome.Outcome.TheVariants as outcomes
use Rattle.watch_trace.specs.Tracing.{Tracing, moment_of}
use Rattle.watch_trace.specs.Following.{outcome_of, run_look, Completes, StepsLead}
use Rattle.answer_delivery.specs.declared.status.End.TheVariants as ends
use Rattle.answer_delivery.specs.declared.status.Refusal.TheVariants as refusals
use Rattle.answer_delivery.specs.declared.status.Status.TheVariants as statuses
use Rattle.job_answers.specs.AnswerLaws.{KeepsAnswerLaws}
use Rattle.job_answers.specs.RunAnswer.{refused_or}
use Rattle.job_answers.specs.SaveAnswer.{run_finished, snapshot_too_long, document_reached, unless_too_long, unless_finished, saving_answer, save_answer}
use Rattle.job_answers.specs.StartingValues.{start_refusal}
use Rattle.job_answers.specs.Inner.SaveSteps.{SavedOrFinished}
use Rattle.job_answers.proofs.ModelTerms.{EventGraph, graph_of, canonical, Note, RunStatus, Ended, Stopped, Faulted, Going, Look, Reached, Moment, start, allowed, look, look_from, reached_from, SavedRun, saved, IsGood}
use Rattle.job_answers.proofs.AnswerTerms.{Answer, Given, Refused, End, done, status_of_answer}
use Rattle.job_answers.proofs.GivenAnswers.{given_is_no_refusal, some_bytes, end_unrefused}
use Rattle.job_answers.proofs.commands.PrintLaws.{canonical_has_bytes}
use Rattle.job_answers.proofs.commands.RunLaws.{at_start}
use Rattle.job_answers.proofs.StartLaws.{taken_start}

-- ---- what is saved of a run that was followed

budget-going : (s : RunStatus) → outcomes.Budget ≡ outcome_of s → s ≡ Going
budget-going Going e = refl
budget-going (Ended t) e = absurd cc
budget-going Stopped e = absurd cc
budget-going (Faulted t kind) e = absurd cc

module _ (m : Model) (until seed events room : ℕ) (starts : List ℤ) (r : Running) (t : Tracing) (begun : BegunRun m seed starts room r) (noted : t.noted ≡ None) where
  -- the look from the moment of the run is that at the run
  seen_is : run_look until events r t ≡ look (graph_of m) seed starts until events
  seen_is =
      let here : moment_of r t ≡ start (graph_of r.model) starts = at_start (graph_of r.model) starts r t (begun.now ∙ ap (λ n. (start (graph_of n) starts).now) (sym begun.model)) noted in
      let seen : Model → ℕ → Look = λ n s. look (graph_of n) s starts until events in
      ap (look_from (graph_of r.model) r.seed until events) here ∙ ap₂ seen begun.model begun.seeded

  -- it goes on after so many events, and this is saved of it then
  pub is_saved : (later : Running) (after : Tracing) (rest : List Note) (s : SavedRun) → Completes (run_look until events r t) rest outcomes.Budget → StepsLead until events r t outcomes.Budget later after
      → s ≡ saved seed later.turns (moment_of later after) → SavedOrFinished (graph_of m) until seed events starts (Some s)
  is_saved later after rest s completes h is =
      let g = graph_of r.model in
      let arrives = h.after_steps.0 in
      let all : h.steps ≡ events = h.after_steps.1 in
      let moment : Configuration → Option (List (List ℤ)) → Moment = λ c n. record { now = c; noted = n } in
      let there : moment_of later after ≡ h.here.moment = ap₂ moment arrives.now h.after_steps.2 in
      let turns : later.turns ≡ events = omega (arith, arrives.counts, begun.turns, all) in
      let here : moment_of r t ≡ start g starts = at_start g starts r t (begun.now ∙ ap (λ n. (start (graph_of n) starts).now) (sym begun.model)) noted in
      let reach : Model → ℕ → ℕ → Option (Reached Moment) = λ n k steps. reached_from (graph_of n) k until steps (start (graph_of n) starts) in
      let leads : reached_from (graph_of m) seed until events (start (graph_of m) starts) ≡ Some h.here =
      sym (ap (reached_from g r.seed until h.steps) here ∙ ap₂ (λ n k. reach n k h.steps) begun.model begun.seeded ∙ ap (reach m seed) all) ∙ h.lead in
      (ap (λ (l : Look). l.standing) (sym seen_is) ∙ budget-going (run_look until events r t).standing completes.0, (h.here, leads, is ∙ ap₂ (saved seed) turns there))

-- ---- the answer

module _ (g : EventGraph) (o : SaveOptions) where
  -- what is saved of a run that goes on is good
  pub saved_is_good : ((look g o.seed o.starts o.until o.events).standing ≡ Going → (m : Moment) × GoesOn g o.seed o.starts o.until o.events m × Resumes g o.seed o.starts o.until o.events m)
      → (s : SavedRun) → SavedOrFinished g o.until o.seed o.events o.starts (Some s) → IsGood g s
  saved_is_good resumes s (going, (r, leads, is)) =
      let (m, goes, goes_on) = resumes going in
      let same : m ≡ r.moment = ap (λ (x : Reached Moment). x.moment) (same_Some _ _ (sym goes.reaches ∙ leads)) in
      subst (IsGood g) (ap (saved o.seed o.events) same ∙ sym is) goes_on.good

  pub saved_answer : (s : SavedRun) → SavedOrFinished g o.until o.seed o.events o.starts (Some s) → unless_too_long (canonical g ++ snapshot_text g s) ≡ saving_answer g o
  saved_answer s (going, (r, leads, is)) =
      ap (λ x. unless_too_long (canonical g ++ snapshot_text g x)) is ∙ ap (λ x. unless_too_long (document_reached g o.seed o.events x)) (sym leads)
      ∙ ap (λ x. unless_finished x (unless_too_long (document_reached g o.seed o.events (reached_from g o.seed o.until o.events (start g o.starts))))) (sym going)

  not_going_is_finished : (s : RunStatus) (a : Answer) → (s ≡ Going → ⊥) → Refused refusals.Finished run_finished ≡ unless_finished s a
  not_going_is_finished Going a other = absurd (other refl)
  not_going_is_finished (Ended t) a other = refl
  not_going_is_finished Stopped a other = refl
  not_going_is_finished (Faulted t kind) a other = refl

  pub finished_answer : SavedOrFinished g o.until o.seed o.events o.starts None → Refused refusals.Finished run_finished ≡ saving_answer g o
  finished_answer none = not_going_is_finished (look g o.seed o.starts o.until o.events).standing _ none

  -- a run that begins isn't refused
  pub begun_answer : IsTrue (allowed g o.starts) → saving_answer g o ≡ save_answer g o
  begun_answer taken = ap (λ s. refused_or s (saving_answer g o)) (sym (taken_start g o.starts taken))

-- ---- its laws

-- a document that is given has bytes
document_has_bytes : (document : List ℕ) → 0 < length document → (end : End) (bytes : List ℕ) → Given end bytes ≡ unless_too_long document → 0 < length bytes
document_has_bytes document some end bytes e = by (nat_le (length document) DOCUMENT_MAX) e
  where
    by : (b : Bool) → Given end bytes ≡ cond b (done document) (Refused refusals.TooLarge snapshot_too_long) → 0 < length bytes
    by true e = some_bytes some e
    by false e = absurd (given_is_no_refusal e)

document_unrefused : (document : List ℕ) → status_of_answer (unless_too_long document) ≡ statuses.Refused → ⊥
document_unrefused document = by (nat_le (length document) DOCUMENT_MAX)
  where
    by : (b : Bool) → status_of_answer (cond b (done document) (Refused refusals.TooLarge snapshot_too_long)) ≡ statuses.Refused → ⊥
    by true e = end_unrefused ends.Done e
    by false e = cc

-- a run that goes on has been led somewhere
abbrev pub GoingIsLed : Type 0
GoingIsLed = (g : EventGraph) (seed until n : ℕ) (m : Moment) → (look_from g seed until n m).standing ≡ Going → (r : Reached Moment) × (reached_from g seed until n m ≡ Some r)

module _ (led : GoingIsLed) (g : EventGraph) (o : SaveOptions) where
  reached_has_bytes : (x : Option (Reached Moment)) → (r : Reached Moment) × (x ≡ Some r) → 0 < length (document_reached g o.seed o.events x)
  reached_has_bytes x (r, is) = subst (λ (y : Option (Reached Moment)). 0 < length (document_reached g o.seed o.events y)) (sym is) (canonical_has_bytes g (snapshot_text g (saved o.seed o.events r.moment)))

  saving_has_bytes : (s : RunStatus) → (look g o.seed o.starts o.until o.events).standing ≡ s → (end : End) (bytes : List ℕ)
      → Given end bytes ≡ unless_finished s (unless_too_long (document_reached g o.seed o.events (reached_from g o.seed o.until o.events (start g o.starts)))) → 0 < length bytes
  saving_has_bytes Going going end bytes e =
      document_has_bytes (document_reached g o.seed o.events (reached_from g o.seed o.until o.events (start g o.starts))) (reached_has_bytes _ (led g o.seed o.until o.events (start g o.starts) going)) end bytes e
  saving_has_bytes (Ended t) so end bytes e = absurd (given_is_no_refusal e)
  saving_has_bytes Stopped so end bytes e = absurd (given_is_no_refusal e)
  saving_has_bytes (Faulted t kind) so end bytes e = absurd (given_is_no_refusal e)

  save_has_bytes : (refusal : Option (List ℕ)) (end : End) (bytes : List ℕ) → Given end bytes ≡ refused_or refusal (saving_answer g o) → 0 < length bytes
  save_has_bytes (Some line) end bytes e = absurd (given_is_no_refusal e)
  save_has_bytes None end bytes e = saving_has_bytes (look g o.seed o.starts o.until o.events).standing refl end bytes e

  finished_unrefused : (s : RunStatus) (document : List ℕ) → status_of_answer (unless_finished s (unless_too_long document)) ≡ statuses.Refused → ⊥
  finished_unrefused Going document e = document_unrefused document e
  finished_unrefused (Ended t) document e = cc
  finished_unrefused Stopped document e = cc
  finished_unrefused (Faulted t kind) document e = cc

  save_unrefused : (refusal : Option (List ℕ)) → status_of_answer (refused_or refusal (saving_answer g o)) ≡ statuses.Refused → ⊥
  save_unrefused (Some line) e = cc
  save_unrefused None e = finished_unrefused (look g o.seed o.starts o.until o.events).standing _ e

pub save_laws : GoingIsLed → (options : SaveOptions) → KeepsAnswerLaws (OfModel (Save options))
save_laws led options = record {
  exists = λ g valid. (save_answer g options, refl);
  one = λ g a b x y. x ∙ sym y;
  has_bytes = λ g end bytes h. inr (save_has_bytes led g options (start_refusal g options.starts) end bytes h);
  unrefused = λ g a h e. save_unrefused led g options (start_refusal g options.starts) (sym (ap status_of_answer h) ∙ e);
}
