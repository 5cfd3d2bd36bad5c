-- The laws of the answer of `trial`: a number makes one model, and the strategy makes one thing of it.
use Rattle.std.proofs.Common.{◌≡◌, inr, ℕ, ◌<◌, ◌≤◌, List, length, refl, sym, ap, ◌∙◌}
use Rattle.command_words.specs.declared.reading.BareJob.TheVariants.{Trial}
use Rattle.command_words.specs.declared.reading.Reading.TheVariants.{Nothing}
use Rattle.command_words.specs.declared.trial_options.TrialOptions.{TrialOptions}
use Rattle.trial_report.specs.TrialText.{Summarises}
use Rattle.answer_delivery.specs.declared.status.End.TheVariants as ends
use Rattle.job_answers.specs.AnswerLaws.{KeepsAnswerLaws}
use Rattle.job_answers.proofs.AnswerTerms.{done, status_of_answer}
use Rattle.job_answers.proofs.GivenAnswers.{some_bytes, end_unrefused}

-- each trial has one summary, which has bytes
pub record OneSummary : Type 0 where
  pub exists : (seed vertices until events : ℕ) → 1 ≤ vertices → vertices ≤ 500 → (out : List ℕ) × Summarises seed vertices until events out
  pub one : (seed vertices until events : ℕ) (a b : List ℕ) → Summarises seed vertices until events a → Summarises seed vertices until events b → a ≡ b
  pub has_bytes : (seed vertices until events : ℕ) (out : List ℕ) → Summarises seed vertices until events out → 0 < length out

pub trial_laws : OneSummary → (options : TrialOptions) → KeepsAnswerLaws (Nothing (Trial options))
trial_laws only o = record {
  exists = λ u within. let made = only.exists o.seed o.vertices o.until o.events within.0 within.1 in (done made.0, (made.0, made.1, refl));
  one = λ u a b x y. x.2 ∙ ap (λ out. done out) (only.one o.seed o.vertices o.until o.events x.0 y.0 x.1 y.1) ∙ sym y.2;
  has_bytes = λ u end bytes h. inr (some_bytes (only.has_bytes o.seed o.vertices o.until o.events h.0 h.1) h.2);
  unrefused = λ u a h e. end_unrefused ends.Done (sym (ap status_of_answer h.2) ∙ e);
}
