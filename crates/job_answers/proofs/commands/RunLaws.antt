-- From a run that was begun and followed to the history that is delivered, and the laws of the answer of `run`.
use Rattle.std.proofs.Common.{◌≡◌, inr, ℕ, ◌+◌, ◌≤◌, ℤ, List, length, None, Result, refl, sym, ap, ap₂, ◌∙◌, subst, arith}
use Rattle.std.specs.Prelude.{Option}
use Rattle.command_words.specs.declared.reading.ModelJob.TheVariants.{Run}
use Rattle.command_words.specs.declared.reading.Reading.TheVariants.{Model as OfModel}
use Rattle.command_words.specs.declared.run_options.RunOptions.{RunOptions}
use Rattle.sig_base.specs.Sink.{Outlet}
use Rattle.model_core.specs.declared.model.Model.{Model}
use Rattle.model_core.specs.Run.Step.{Configuration}
use Rattle.run_control.specs.Beginning.{BegunRun}
use Rattle.run_control.specs.Running.{Running}
use Rattle.watch_trace.specs.Tracing.{Tracing, moment_of}
use Rattle.job_answers.specs.AnswerLaws.{KeepsAnswerLaws}
use Rattle.job_answers.specs.RunAnswer.{answer_of_look, refused_or, run_answer, ExceedsRoom}
use Rattle.job_answers.specs.StartingValues.{start_refusal}
use Rattle.job_answers.specs.Inner.RunSteps.{DeliversHistory}
use Rattle.job_answers.proofs.ModelTerms.{EventGraph, graph_of, Moment, start, look}
use Rattle.job_answers.proofs.AnswerTerms.{Answer, Failure, DeliveryOutcome, status_of_answer, DeliversSome}
use Rattle.job_answers.proofs.HistoryLaws.{look_has_bytes, look_unrefused}
use Rattle.job_answers.proofs.StartLaws.{taken_start}

-- ---- the run

-- a run at its beginning, with a tracer that noted nothing
pub at_start : (g : EventGraph) (starts : List ℤ) (r : Running) (t : Tracing) → r.now ≡ (start g starts).now → t.noted ≡ None → moment_of r t ≡ start g starts
at_start g starts r t now noted =
    let moment : Configuration → Option (List (List ℤ)) → Moment = λ c n. record { now = c; noted = n } in
    ap₂ moment now noted

-- ---- the answer

-- The history of a run from its beginning is what `run` answers.
pub run_delivered : {K : Type 0} (sight : K → Outlet) (m : Model) (until seed events room : ℕ) (starts : List ℤ) (r : Running) (t : Tracing) (result : Result DeliveryOutcome Failure) (o p : K) → BegunRun m seed starts room r → t.noted ≡ None
    → ((room : ℕ) → room ≤ r.spare + length r.now.pending → DeliversHistory sight (graph_of r.model) until r.seed events (moment_of r t) room result o p)
    → DeliversSome sight (λ a. a ≡ run_answer (graph_of m) until seed events starts) (ExceedsRoom (graph_of m) until seed events starts room) result o p
run_delivered sight m until seed events room starts r t result o p begun noted delivers =
    let roomy : room ≤ r.spare + length r.now.pending = omega (arith, begun.roomy) in
    let here : moment_of r t ≡ start (graph_of r.model) starts = at_start (graph_of r.model) starts r t (begun.now ∙ ap (λ n. (start (graph_of n) starts).now) (sym begun.model)) noted in
    let is_answer : answer_of_look (graph_of m) until events (look (graph_of m) seed starts until events) ≡ run_answer (graph_of m) until seed events starts =
    ap (λ s. refused_or s (answer_of_look (graph_of m) until events (look (graph_of m) seed starts until events))) (sym (taken_start (graph_of m) starts begun.accepted)) in
    subst (λ (x : Answer). DeliversSome sight (λ a. a ≡ x) (ExceedsRoom (graph_of m) until seed events starts room) result o p) is_answer
    (subst (λ (s : ℕ). DeliversHistory sight (graph_of m) until s events (start (graph_of m) starts) room result o p) begun.seeded
    (subst (λ (n : Model). DeliversHistory sight (graph_of n) until r.seed events (start (graph_of n) starts) room result o p) begun.model
    (subst (λ (here : Moment). DeliversHistory sight (graph_of r.model) until r.seed events here room result o p) here (delivers room roomy))))

-- ---- its laws

pub run_laws : (options : RunOptions) → KeepsAnswerLaws (OfModel (Run options))
run_laws options =
    let seen = λ (g : EventGraph). look g options.seed options.starts options.until options.events in
    record {
      exists = λ g valid. (run_answer g options.until options.seed options.events options.starts, refl);
      one = λ g a b x y. x ∙ sym y;
      has_bytes = λ g end bytes h. inr (look_has_bytes g options.until options.events (start_refusal g options.starts) (seen g) end bytes h);
      unrefused = λ g a h e. look_unrefused g options.until options.events (start_refusal g options.starts) (seen g) (sym (ap status_of_answer h) ∙ e);
    }
