-- What was read is answered, and the complaint about a text that can't be read is its answer too.
use Rattle.std.proofs.Common.{◌≡◌, inl, inr, ℕ, List, map, Result, Err, refl, ap, sym, subst}
use Rattle.sig_base.specs.Sink.{Outlet}
use Rattle.command_words.specs.declared.reading.DocumentJob.{DocumentJob}
use Rattle.command_words.specs.declared.reading.ModelJob.{ModelJob}
use Rattle.command_words.specs.declared.reading.PairJob.{PairJob}
use Rattle.command_words.specs.declared.reading.Reading.{Reading}
use Rattle.command_words.specs.declared.reading.Reading.TheVariants.{Model, Document, Pair, Saved}
use Rattle.command_words.specs.declared.reading.SavedJob.{SavedJob}
use Rattle.answer_delivery.specs.declared.complaint.Complaint.{Complaint}
use Rattle.answer_delivery.specs.Complaints.{IsComplaint}
use Rattle.job_answers.specs.declared.reading_error.ReadingError.{ReadingError}
use Rattle.job_answers.specs.declared.reading_error.ReadingError.TheVariants as readings
use Rattle.job_answers.specs.Answers.{AnswersModel, AnswersDocument, AnswersPair, AnswersSaved, MayLackMemory, SavedMayLackMemory, IsRefused, Responds, MayStopShort}
use Rattle.job_answers.specs.DocumentComplaints.{IsDocumentComplaint}
use Rattle.job_answers.specs.PairComplaints.{IsPairComplaint}
use Rattle.job_answers.specs.PairReading.{ReadsPair}
use Rattle.job_answers.specs.SavedComplaints.{IsSavedComplaint}
use Rattle.job_answers.specs.SavedReading.{ReadsSaved}
use Rattle.job_answers.specs.Inner.Refusals.{Complains}
use Rattle.job_answers.proofs.ModelTerms.{EventGraph, graph_of, application_of, Reads, ReadsDocument, RuleApplication, SavedRun}
use Rattle.job_answers.proofs.AnswerTerms.{Answer, Failure, DeliveryOutcome, DeliversSome}
use Rattle.job_answers.proofs.SavedModels.{saved_model_valid, pair_models_valid}
use Rattle.job_answers.proofs.answering.answer_text.Goals as goal

module _ {K : Type 0} (seen : K → Outlet) (text : List ℕ) (r : Result DeliveryOutcome Failure) (o p : K) where
  abbrev DeliversReply : Reading → Type 0
  DeliversReply reading = DeliversSome seen (Responds reading text) (MayStopShort reading text) r o p

  -- ---- what was read

  replies : (reading : Reading) (P : Answer → Type 0) (Short : Type 0) → ((a : Answer) → P a → Responds reading text a) → (Short → MayStopShort reading text) → DeliversSome seen P Short r o p → DeliversReply reading
  replies reading P Short answers short (inl one) = inl (record {
    answer = one.answer;
    holds = answers one.answer one.holds;
    delivers = one.delivers;
    short = λ e. elim (one.short e) [ inl same ↦ inl same | inr more ↦ inr (short more) ];
  })
  replies reading P Short answers short (inr none) = inr none

  of_model : (job : ModelJob) (g : EventGraph) → Reads text g → DeliversSome seen (AnswersModel job g) (MayLackMemory job g) r o p → DeliversReply (Model job)
  of_model job g reads = replies (Model job) (AnswersModel job g) (MayLackMemory job g) (λ a is. inr (g, reads, is)) (λ short. (g, reads, short))

  of_document : (job : DocumentJob) (g : EventGraph) (applications : List RuleApplication) (h : EventGraph) → ReadsDocument text g applications h
      → DeliversSome seen (AnswersDocument job g applications h) ⊥ r o p → DeliversReply (Document job)
  of_document job g applications h reads =
      replies (Document job) (AnswersDocument job g applications h) ⊥
      (λ a is. inr (g, applications, h, reads, is)) (λ never. absurd never)

  of_pair : (job : PairJob) (g h : EventGraph) → ReadsPair text g h → DeliversSome seen (AnswersPair job g h) ⊥ r o p → DeliversReply (Pair job)
  of_pair job g h reads = replies (Pair job) (AnswersPair job g h) ⊥ (λ a is. inr (g, h, reads, is)) (λ never. absurd never)

  of_saved : (job : SavedJob) (g : EventGraph) (s : SavedRun) → ReadsSaved text g s → DeliversSome seen (AnswersSaved job g s) (SavedMayLackMemory job g s) r o p → DeliversReply (Saved job)
  of_saved job g s reads =
      replies (Saved job) (AnswersSaved job g s) (SavedMayLackMemory job g s)
      (λ a is. inr (g, s, reads, is)) (λ short. (g, s, reads, short))

  -- ---- what couldn't be read

  complained : (reading : Reading) (IsSo : Complaint → ℕ → Type 0) → ((a : Answer) → IsRefused IsSo a → Responds reading text a)
      → (error : ReadingError) → ((what : Complaint) (at : ℕ) → error ≡ readings.At what at → IsSo what at) → Complains seen error r o p → DeliversReply reading
  complained reading IsSo refuses (readings.At what at) is h =
      replies reading _ ⊥ (λ a is_refusal. refuses a (record { what = what; at = at; complaint = is what at refl; refuses = is_refusal })) (λ never. absurd never) h
  complained reading IsSo refuses readings.NoMemory is h = inr h

  -- ---- the reading that is asked for

  of_reading : (reading this : Reading) → reading ≡ this → DeliversReply this → DeliversReply reading
  of_reading reading this is h = subst (λ (x : Reading). DeliversReply x) (sym is) h

pub answer_saved-said-requires-clause-valid : goal.answer_saved-said-requires-clause-valid
answer_saved-said-requires-clause-valid g c =
    saved_model_valid c.args.text.now (graph_of c.in-Ok-saved_document_of.saved.model) c.in-Ok-saved_document_of.saved.snapshot c.in-Ok-saved_document_of.ensures.ok

pub returns-in-Ok : goal.returns-in-Ok
returns-in-Ok g c =
    of_reading g.K.Sink.seen c.args.text.now c.answer_model.result c.args.output.now c.answer_model.new.output c.args.reading.now (Model c.in-Model.job) c.in-Model.is
    (of_model g.K.Sink.seen c.args.text.now c.answer_model.result c.args.output.now c.answer_model.new.output c.in-Model.job (graph_of c.in-Ok.model) c.in-Ok.ensures.ok c.answer_model.ensures)

pub returns-in-Err : goal.returns-in-Err
returns-in-Err g c =
    of_reading g.K.Sink.seen c.args.text.now c.complain.result c.args.output.now c.complain.new.output c.args.reading.now (Model c.in-Model.job) c.in-Model.is
    (complained g.K.Sink.seen c.args.text.now c.complain.result c.args.output.now c.complain.new.output (Model c.in-Model.job) (IsComplaint c.args.text.now) (λ a refusal. inl refusal) c.in-Err.error
    (λ what at is. c.in-Err.ensures.complaint what at (ap (λ x. Err x) is)) c.complain.ensures)

pub returns-in-Ok-document_of : goal.returns-in-Ok-document_of
returns-in-Ok-document_of g c =
    let d = c.in-Ok-document_of.document in
    of_reading g.K.Sink.seen c.args.text.now c.answer_document-said.result c.args.output.now c.answer_document-said.new.output c.args.reading.now (Document c.in-Document.job) c.in-Document.is
    (of_document g.K.Sink.seen c.args.text.now c.answer_document-said.result c.args.output.now c.answer_document-said.new.output c.in-Document.job
    (graph_of d.original) (map application_of d.applications) (graph_of d.reduced) c.in-Ok-document_of.ensures.ok c.answer_document-said.ensures)

pub returns-in-Err-document_of : goal.returns-in-Err-document_of
returns-in-Err-document_of g c =
    of_reading g.K.Sink.seen c.args.text.now c.complain-in-Err-document_of.result c.args.output.now c.complain-in-Err-document_of.new.output c.args.reading.now (Document c.in-Document.job) c.in-Document.is
    (complained g.K.Sink.seen c.args.text.now c.complain-in-Err-document_of.result c.args.output.now c.complain-in-Err-document_of.new.output (Document c.in-Document.job) (IsDocumentComplaint c.args.text.now) (λ a refusal. inl refusal) c.in-Err-document_of.error
    (λ what at is. c.in-Err-document_of.ensures.complaint what at (ap (λ x. Err x) is)) c.complain-in-Err-document_of.ensures)

pub answer_pair-said-requires-clause-first_valid : goal.answer_pair-said-requires-clause-first_valid
answer_pair-said-requires-clause-first_valid g c = (pair_models_valid c.args.text.now (graph_of c.in-Ok-pair_of.pair.first) (graph_of c.in-Ok-pair_of.pair.second) c.in-Ok-pair_of.ensures.ok).0

pub answer_pair-said-requires-clause-second_valid : goal.answer_pair-said-requires-clause-second_valid
answer_pair-said-requires-clause-second_valid g c = (pair_models_valid c.args.text.now (graph_of c.in-Ok-pair_of.pair.first) (graph_of c.in-Ok-pair_of.pair.second) c.in-Ok-pair_of.ensures.ok).1

pub returns-in-Ok-pair_of : goal.returns-in-Ok-pair_of
returns-in-Ok-pair_of g c =
    let d = c.in-Ok-pair_of.pair in
    of_reading g.K.Sink.seen c.args.text.now c.answer_pair-said.result c.args.output.now c.answer_pair-said.new.output c.args.reading.now (Pair c.in-Pair.job) c.in-Pair.is
    (of_pair g.K.Sink.seen c.args.text.now c.answer_pair-said.result c.args.output.now c.answer_pair-said.new.output c.in-Pair.job (graph_of d.first) (graph_of d.second) c.in-Ok-pair_of.ensures.ok c.answer_pair-said.ensures)

pub returns-in-Err-pair_of : goal.returns-in-Err-pair_of
returns-in-Err-pair_of g c =
    of_reading g.K.Sink.seen c.args.text.now c.complain-in-Err-pair_of.result c.args.output.now c.complain-in-Err-pair_of.new.output c.args.reading.now (Pair c.in-Pair.job) c.in-Pair.is
    (complained g.K.Sink.seen c.args.text.now c.complain-in-Err-pair_of.result c.args.output.now c.complain-in-Err-pair_of.new.output (Pair c.in-Pair.job) (IsPairComplaint c.args.text.now) (λ a refusal. inl refusal) c.in-Err-pair_of.error
    (λ what at is. c.in-Err-pair_of.ensures.complaint what at (ap (λ x. Err x) is)) c.complain-in-Err-pair_of.ensures)

pub returns-in-Ok-saved_document_of : goal.returns-in-Ok-saved_document_of
returns-in-Ok-saved_document_of g c =
    let d = c.in-Ok-saved_document_of.saved in
    of_reading g.K.Sink.seen c.args.text.now c.answer_saved-said.result c.args.output.now c.answer_saved-said.new.output c.args.reading.now (Saved c.in-Saved.job) c.in-Saved.is
    (of_saved g.K.Sink.seen c.args.text.now c.answer_saved-said.result c.args.output.now c.answer_saved-said.new.output c.in-Saved.job (graph_of d.model) d.snapshot c.in-Ok-saved_document_of.ensures.ok c.answer_saved-said.ensures)

pub returns-in-Err-saved_document_of : goal.returns-in-Err-saved_document_of
returns-in-Err-saved_document_of g c =
    of_reading g.K.Sink.seen c.args.text.now c.complain-in-Err-saved_document_of.result c.args.output.now c.complain-in-Err-saved_document_of.new.output c.args.reading.now (Saved c.in-Saved.job) c.in-Saved.is
    (complained g.K.Sink.seen c.args.text.now c.complain-in-Err-saved_document_of.result c.args.output.now c.complain-in-Err-saved_document_of.new.output (Saved c.in-Saved.job) (IsSavedComplaint c.args.text.now) (λ a refusal. inl refusal) c.in-Err-saved_document_of.error
    (λ what at is. c.in-Err-saved_document_of.ensures.complaint what at (ap (λ x. Err x) is)) c.complain-in-Err-saved_document_of.ensures)
