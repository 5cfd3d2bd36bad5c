-- Which texts are refused: those that read as nothing, of which there is something to complain or which are too long.
use Rattle.std.proofs.Common.{◌≡◌, ◌⊎◌, inl, inr, ℕ, ◌≤◌, List, length, refl, ap, arith}
use Rattle.std.specs.Prelude.{◌↔◌}
use Rattle.sig_base.specs.declared.limits.TheConstants.{TEXT_MAX, DOCUMENT_MAX}
use Rattle.command_words.specs.declared.reading.Reading.{Reading}
use Rattle.command_words.specs.declared.reading.Reading.TheVariants as readings
use Rattle.command_words.specs.Readings.{limit_of}
use Rattle.model_core.specs.EventGraph.{EventGraph}
use Rattle.model_core.specs.Rules.Reduction.{RuleApplication}
use Rattle.model_core.specs.Saved.SavedRun.{SavedRun}
use Rattle.model_core.specs.Static.Reading.{Reads, ReadsDocument}
use Rattle.answer_delivery.specs.declared.answer.Answer.{Answer}
use Rattle.answer_delivery.specs.declared.status.Status.TheVariants as statuses
use Rattle.answer_delivery.specs.AnswerForms.{refused, too_long}
use Rattle.job_answers.specs.AnswerLaws.{KeepsAnswerLaws}
use Rattle.job_answers.specs.Answers.{Responds, IsOver, Answers}
use Rattle.job_answers.specs.TextComplaints.{HasComplaint, HasDocumentComplaint, HasPairComplaint, HasSavedComplaint}
use Rattle.job_answers.specs.PairReading.{ReadsPair}
use Rattle.job_answers.specs.SavedReading.{ReadsSaved}
use Rattle.answer_delivery.specs.Statuses.{status_of_answer}
use Rattle.answer_laws.specs.Unreadable.{IsNoModel, IsNoDocument, IsNoPair, IsNoSavedDocument, IsUnreadable}
use Rattle.answer_laws.proofs.OneAnswer.{ComplaintLaws, DocumentLaws, PairLaws, SavedLaws}

abbrev IsRefusedStatus : Answer → Type 0
IsRefusedStatus a = status_of_answer a ≡ statuses.Refused

-- ---- over the limit nothing reads

unreadable_over : (reading : Reading) (text : List ℕ) → IsOver (limit_of reading) text → IsUnreadable reading text
unreadable_over (readings.Model job) text over = λ g reads. let fits = reads.fits in omega (arith, over, fits)
unreadable_over (readings.Document job) text over = λ original applications reduced reads. let fits = reads.fits in omega (arith, over, fits)
unreadable_over (readings.Pair job) text over = λ g h reads. let fits = reads.fits in omega (arith, over, fits)
unreadable_over (readings.Saved job) text over = λ g s reads. let fits = reads.fits in omega (arith, over, fits)
unreadable_over (readings.Nothing job) text over = over

pub refused_over : (reading : Reading) (text : List ℕ) → IsOver (limit_of reading) text → Answers reading text (refused too_long) × IsUnreadable reading text
refused_over reading text over = (inl (over, refl), unreadable_over reading text over)

module _ (complaints : ComplaintLaws) (documents : DocumentLaws) (pairs : PairLaws) (saved : SavedLaws) (text : List ℕ) where
  -- ---- within the limit there is something to complain of, or it reads

  complained : HasComplaint text ⊎ ((g : EventGraph) × Reads text g) → IsNoModel text → HasComplaint text
  complained (inl c) none = c
  complained (inr r) none = absurd (none r.0 r.1)

  pub complaint_is_unread : length text ≤ TEXT_MAX → HasComplaint text ↔ IsNoModel text
  complaint_is_unread short = (λ h g reads. complaints.none text h.0 h.1 g h.2 reads, complained (complaints.some text short))

  document_complained : HasDocumentComplaint text ⊎ ((g : EventGraph) × (applications : List RuleApplication) × (h : EventGraph) × ReadsDocument text g applications h) → IsNoDocument text → HasDocumentComplaint text
  document_complained (inl c) none = c
  document_complained (inr (g, applications, h, reads)) none = absurd (none g applications h reads)

  pub document_complaint_is_unread : length text ≤ DOCUMENT_MAX → HasDocumentComplaint text ↔ IsNoDocument text
  document_complaint_is_unread short = (λ c g applications h reads. documents.none text c.0 c.1 g applications h c.2 reads, document_complained (documents.some text short))

  pair_complained : HasPairComplaint text ⊎ ((g : EventGraph) × (h : EventGraph) × ReadsPair text g h) → IsNoPair text → HasPairComplaint text
  pair_complained (inl c) none = c
  pair_complained (inr (g, h, reads)) none = absurd (none g h reads)

  pub pair_complaint_is_unread : length text ≤ DOCUMENT_MAX → HasPairComplaint text ↔ IsNoPair text
  pair_complaint_is_unread short = (λ c g h reads. pairs.none text c.0 c.1 g h c.2 reads, pair_complained (pairs.some text short))

  saved_complained : HasSavedComplaint text ⊎ ((g : EventGraph) × (s : SavedRun) × ReadsSaved text g s) → IsNoSavedDocument text → HasSavedComplaint text
  saved_complained (inl c) none = c
  saved_complained (inr (g, s, reads)) none = absurd (none g s reads)

  pub saved_complaint_is_unread : length text ≤ DOCUMENT_MAX → HasSavedComplaint text ↔ IsNoSavedDocument text
  saved_complaint_is_unread short = (λ c g s reads. saved.none text c.0 c.1 g s c.2 reads, saved_complained (saved.some text short))

  -- ---- the answer

  response_refused : (reading : Reading) → KeepsAnswerLaws reading → (a : Answer) → Responds reading text a → IsRefusedStatus a ↔ IsUnreadable reading text
  response_refused (readings.Model job) laws a (inl h) = (λ e g reads. complaints.none text h.what h.at g h.complaint reads, λ none. ap status_of_answer h.refuses)
  response_refused (readings.Model job) laws a (inr h) = (λ e. absurd (laws.unrefused h.0 a h.2 e), λ none. absurd (none h.0 h.1))
  response_refused (readings.Document job) laws a (inl h) =
      (λ e original applications reduced reads. documents.none text h.what h.at original applications reduced h.complaint reads, λ none. ap status_of_answer h.refuses)
  response_refused (readings.Document job) laws a (inr h) =
      (λ e. absurd (laws.unrefused (h.0, h.1, h.2) a h.4 e), λ none. absurd (none h.0 h.1 h.2 h.3))
  response_refused (readings.Pair job) laws a (inl h) = (λ e g k reads. pairs.none text h.what h.at g k h.complaint reads, λ none. ap status_of_answer h.refuses)
  response_refused (readings.Pair job) laws a (inr h) = (λ e. absurd (laws.unrefused (h.0, h.1) a h.3 e), λ none. absurd (none h.0 h.1 h.2))
  response_refused (readings.Saved job) laws a (inl h) = (λ e g s reads. saved.none text h.what h.at g s h.complaint reads, λ none. ap status_of_answer h.refuses)
  response_refused (readings.Saved job) laws a (inr h) = (λ e. absurd (laws.unrefused (h.0, h.1) a h.3 e), λ none. absurd (none h.0 h.1 h.2))
  response_refused (readings.Nothing job) laws a h = (λ e. absurd (laws.unrefused tt a h e), λ none. absurd none)

  pub refused_is_unreadable : (reading : Reading) → KeepsAnswerLaws reading → (a : Answer) → Answers reading text a → IsRefusedStatus a ↔ IsUnreadable reading text
  refused_is_unreadable reading laws a (inl h) = (λ e. unreadable_over reading text h.0, λ none. ap status_of_answer h.1)
  refused_is_unreadable reading laws a (inr h) = response_refused reading laws a h.1
