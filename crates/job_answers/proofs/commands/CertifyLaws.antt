-- The laws of the answer of `certify`.
use Rattle.std.proofs.Common.{◌≡◌, inr, ℕ, ◌<◌, List, length, refl, sym, ap, ◌∙◌, arith}
use Rattle.std.specs.Prelude.{codes, decimal}
use Rattle.command_words.specs.declared.reading.DocumentJob.TheVariants.{Certify}
use Rattle.command_words.specs.declared.reading.Reading.TheVariants.{Document}
use Rattle.model_core.specs.Rules.Verdict.{Verdict, Sound, Rejected, Differs, verdict}
use Rattle.answer_delivery.specs.declared.status.Status.TheVariants as statuses
use Rattle.job_answers.specs.AnswerLaws.{KeepsAnswerLaws}
use Rattle.job_answers.specs.CertifyAnswer.{answer_of_verdict}
use Rattle.job_answers.proofs.AnswerTerms.{Given, End, status_of_answer}
use Rattle.job_answers.proofs.GivenAnswers.{begins_with, some_bytes}

has_bytes : (v : Verdict) (end : End) (bytes : List ℕ) → Given end bytes ≡ answer_of_verdict v → 0 < length bytes
has_bytes Sound end bytes h = some_bytes (omega arith) h
has_bytes (Rejected line) end bytes h = some_bytes (begins_with (codes "rejected ") (decimal line) (codes "\n") (omega arith)) h
has_bytes Differs end bytes h = some_bytes (omega arith) h

unrefused : (v : Verdict) → status_of_answer (answer_of_verdict v) ≡ statuses.Refused → ⊥
unrefused Sound e = cc
unrefused (Rejected line) e = cc
unrefused Differs e = cc

pub certify_laws : KeepsAnswerLaws (Document Certify)
certify_laws = record {
  exists = λ d read. (answer_of_verdict (verdict d.0 d.1 d.2), refl);
  one = λ d a b x y. x ∙ sym y;
  has_bytes = λ d end bytes h. inr (has_bytes (verdict d.0 d.1 d.2) end bytes h);
  unrefused = λ d a h e. unrefused (verdict d.0 d.1 d.2) (sym (ap status_of_answer h) ∙ e);
}
