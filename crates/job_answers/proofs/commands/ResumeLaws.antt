-- From a saved run that was resumed to the history that is delivered, and the laws of the answer of `resume`.
use Rattle.std.proofs.Common.{◌≡◌, inr, ℕ, ◌+◌, ◌≤◌, length, None, Result, refl, sym, ap, ◌∙◌, subst}
use Rattle.std.specs.Prelude.{max}
use Rattle.command_words.specs.declared.reading.Reading.TheVariants.{Saved as OfSaved}
use Rattle.command_words.specs.declared.reading.SavedJob.TheVariants.{Resume}
use Rattle.command_words.specs.declared.resume_options.ResumeOptions.{ResumeOptions}
use Rattle.sig_base.specs.Sink.{Outlet}
use Rattle.model_core.specs.declared.model.Model.{Model}
use Rattle.run_control.specs.Running.{Running}
use Rattle.run_snapshot.specs.ResumedRun.{ResumedRun}
use Rattle.watch_trace.specs.Tracing.{Tracing, moment_of}
use Rattle.job_answers.specs.AnswerLaws.{KeepsAnswerLaws}
use Rattle.job_answers.specs.RunAnswer.{answer_of_look, refused_or}
use Rattle.job_answers.specs.ResumeAnswer.{resume_refusal, resume_answer, ResumedExceedsRoom}
use Rattle.job_answers.specs.Inner.RunSteps.{DeliversHistory}
use Rattle.job_answers.proofs.ModelTerms.{EventGraph, graph_of, Moment, SavedRun, saved_moment, history_from}
use Rattle.job_answers.proofs.AnswerTerms.{Answer, Failure, DeliveryOutcome, status_of_answer, DeliversSome}
use Rattle.job_answers.proofs.HistoryLaws.{look_has_bytes, look_unrefused}

module _ {K : Type 0} (sight : K → Outlet) (g : EventGraph) (s : SavedRun) (o : ResumeOptions) where
  abbrev pub DeliversResumed : Result DeliveryOutcome Failure → K → K → Type 0
  DeliversResumed r p q = DeliversSome sight (λ a. a ≡ resume_answer g s o.until o.events) (ResumedExceedsRoom g s o) r p q

-- The history of a run that was resumed is what `resume` answers.
pub resume_delivered : {K : Type 0} (sight : K → Outlet) (m : Model) (s : SavedRun) (o : ResumeOptions) (r : Running) (t : Tracing) (result : Result DeliveryOutcome Failure) (p q : K) → resume_refusal s o.until o.events ≡ None → ResumedRun m s o.room r t
    → ((room : ℕ) → room ≤ r.spare + length r.now.pending → DeliversHistory sight (graph_of r.model) o.until r.seed o.events (moment_of r t) room result p q) → DeliversResumed sight (graph_of m) s o result p q
resume_delivered sight m s o r t result p q allowed resumed delivers =
    let room = max o.room (length s.pending) in
    let here = saved_moment (graph_of m) s in
    subst (λ (x : Answer). DeliversSome sight (λ a. a ≡ x) (ResumedExceedsRoom (graph_of m) s o) result p q) (ap (λ x. refused_or x (answer_of_look (graph_of m) o.until o.events (history_from (graph_of m) s o.until o.events))) (sym allowed))
    (subst (λ (n : Model). DeliversHistory sight (graph_of n) o.until s.seed o.events here room result p q) resumed.model
    (subst (λ (seed : ℕ). DeliversHistory sight (graph_of r.model) o.until seed o.events here room result p q) resumed.seeded
    (subst (λ (here : Moment). DeliversHistory sight (graph_of r.model) o.until r.seed o.events here room result p q) resumed.same_moment (delivers room resumed.roomy))))

pub resume_laws : (options : ResumeOptions) → KeepsAnswerLaws (OfSaved (Resume options))
resume_laws o = record {
  exists = λ d read. (resume_answer d.0 d.1 o.until o.events, refl);
  one = λ d a b x y. x ∙ sym y;
  has_bytes = λ d end bytes h. inr (look_has_bytes d.0 o.until o.events (resume_refusal d.1 o.until o.events) (history_from d.0 d.1 o.until o.events) end bytes h);
  unrefused = λ d a h e. look_unrefused d.0 o.until o.events (resume_refusal d.1 o.until o.events) (history_from d.0 d.1 o.until o.events) (sym (ap status_of_answer h) ∙ e);
}
