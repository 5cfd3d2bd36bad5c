-- A text that reads isn't over the limit, and has nothing to complain of.
use Rattle.std.proofs.Common.{◌≡◌, inl, inr, ℕ, List, ap, arith}
use Rattle.command_words.specs.declared.reading.ModelJob.TheVariants.{Reduce}
use Rattle.command_words.specs.declared.reading.Reading.TheVariants.{Model}
use Rattle.answer_delivery.specs.declared.complaint.Complaint.{Complaint}
use Rattle.answer_delivery.specs.declared.status.Status.TheVariants as statuses
use Rattle.job_answers.specs.Answers.{Responds, Answers}
use Rattle.answer_delivery.specs.Complaints.{IsComplaint}
use Rattle.job_answers.proofs.ModelTerms.{EventGraph, Reads}
use Rattle.job_answers.proofs.AnswerTerms.{Answer, status_of_answer}
use Rattle.job_answers.proofs.complaint_law.readable_models_are_reduced.Goals as goal

module _ (none : (text : List ℕ) (c : Complaint) (i : ℕ) (g : EventGraph) → IsComplaint text c i → Reads text g → ⊥) (text : List ℕ) (g : EventGraph) (a : Answer) (reads : Reads text g) where
  within : Responds (Model Reduce) text a → status_of_answer a ≡ statuses.Done
  within (inl h) = absurd (none text h.what h.at g h.complaint reads)
  within (inr h) = ap status_of_answer h.2.2

  reduced : Answers (Model Reduce) text a → status_of_answer a ≡ statuses.Done
  reduced (inl h) = let fits = reads.fits in let over = h.0 in absurd (omega (arith, fits, over))
  reduced (inr h) = within h.1

pub returns : goal.returns
returns c = λ text g a reads answers. reduced c.texts_have_one_complaint.ensures.none text g a reads answers
