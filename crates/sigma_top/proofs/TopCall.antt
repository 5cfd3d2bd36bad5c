-- From the job to the call, and from its table of statuses to its other clauses.
use Rattle.std.proofs.Common.{◌≡◌, ◌⊎◌, inl, inr, ℕ, List, [], Option, Some, None, Result, Ok, Err, refl, ap, sym, subst, ◌∙◌}
use Rattle.std.proofs.lemmas.Option.{same_Some}
use Rattle.std.specs.Prelude.{IfSome}
use Rattle.sig_base.specs.Faults.{HasRisen}
use Rattle.sig_base.specs.Sink.{Outlet, GrowsBy}
use Rattle.sig_base.proofs.SinkLemmas.{GrowsBy-nothing}
use Rattle.sig_base.proofs.Tests.{some_is_not_none}
use Rattle.model_core.specs.EventGraph.{EventGraph}
use Rattle.model_core.specs.Ranges.Narrowed.{IsNarrowed}
use Rattle.model_core.specs.Rules.Fuse.{Fused}
use Rattle.model_core.specs.Saved.SavedRun.{SavedRun, saved}
use Rattle.model_core.specs.Static.Reading.{Reads}
use Rattle.sig_base.specs.Source.{Inlet}
use Rattle.command_words.specs.declared.job.Job.{Job}
use Rattle.command_words.specs.declared.job.Job.TheVariants as jobs
use Rattle.command_words.specs.declared.reading.DocumentJob.TheVariants as documents
use Rattle.command_words.specs.declared.reading.ModelJob.{ModelJob}
use Rattle.command_words.specs.declared.reading.ModelJob.TheVariants as models
use Rattle.command_words.specs.declared.reading.Reading.{Reading}
use Rattle.command_words.specs.declared.reading.Reading.TheVariants as readings
use Rattle.command_words.specs.declared.reading.SavedJob.{SavedJob}
use Rattle.command_words.specs.declared.reading.SavedJob.TheVariants as saved_jobs
use Rattle.command_words.specs.Jobs.{job_of}
use Rattle.command_words.specs.declared.resume_options.ResumeOptions.{ResumeOptions}
use Rattle.command_words.specs.declared.save_options.SaveOptions.{SaveOptions}
use Rattle.command_words.specs.KeptLimits.{KeepsLimits}
use Rattle.command_words.specs.Readings.{reading_of, limit_of}
use Rattle.answer_delivery.specs.declared.answer.Answer.{Answer}
use Rattle.answer_delivery.specs.declared.answer.Answer.TheVariants.{Given, Refused}
use Rattle.answer_delivery.specs.declared.delivering.DeliveryOutcome.{DeliveryOutcome}
use Rattle.answer_delivery.specs.declared.delivering.DeliveryOutcome.TheVariants as said
use Rattle.answer_delivery.specs.declared.status.End.{End}
use Rattle.answer_delivery.specs.declared.status.End.TheVariants as ends
use Rattle.answer_delivery.specs.declared.status.Refusal.{Refusal}
use Rattle.answer_delivery.specs.declared.status.Refusal.TheVariants as refusals
use Rattle.answer_delivery.specs.declared.status.Failure.{Failure}
use Rattle.answer_delivery.specs.declared.status.Failure.TheVariants as failures
use Rattle.answer_delivery.specs.declared.status.Status.{Status}
use Rattle.answer_delivery.specs.declared.status.Status.TheVariants as statuses
use Rattle.job_answers.specs.Answers.{AnswersSaved, Responds, Answers, MayStopShort}
use Rattle.job_answers.specs.CertifyAnswer.{Certifies}
use Rattle.job_answers.specs.ReduceAnswer.{KeepsMeaning}
use Rattle.job_answers.specs.RewrittenAnswer.{RewritesTheSame}
use Rattle.job_answers.specs.SavedAndResumed.{SavesTheRun, WritesTheRest}
use Rattle.job_answers.specs.SavedReading.{ReadsSaved}
use Rattle.answer_delivery.specs.Statuses.{status_of_answer, bytes_of_answer, status_of_end, status_of_refusal, failure_line}
use Rattle.answer_delivery.specs.FailureStatus.{status_of_failure}
use Rattle.sigma_top.specs.Promises.{PrintsModel, KeepsPromises}
use Rattle.sigma_top.specs.StatusTable.{text_of, ReportsLine, WritesAnswer, Refuses, RepliesToInput, WritesAnswerFront, LacksMemory, ForJob, Ends}
use Rattle.sigma_top.specs.Inner.CallSteps.{AnswersInput, AnswersWords, Reports}

-- ---- what `print`, `reduce`, `fuse` and `narrow` give, and what `certify` finds sound

-- what a job on a model gives for a text is such
abbrev pub GivesSuch : ModelJob → (List ℕ → List ℕ → Type 0) → Type 0
GivesSuch job IsSuch = (text bytes : List ℕ) (end : End) → Answers (readings.Model job) text (Given end bytes) → IsSuch text bytes

prints_model : GivesSuch models.Print PrintsModel
prints_model text bytes end (inl over) = let e = over.1 in absurd cc
prints_model text bytes end (inr (within, response)) = by response where
  by : Responds (readings.Model models.Print) text (Given end bytes) → PrintsModel text bytes
  by (inl h) = let e = h.refuses in absurd cc
  by (inr (g, reads, is)) = (g, reads, ap bytes_of_answer is)

abbrev pub SoundMeansTheSame : Type 0
SoundMeansTheSame = (text bytes : List ℕ) → Answers (readings.Document documents.Certify) text (Given ends.Done bytes) → Certifies text

of_input_text : (left : Option (List ℕ)) (text : List ℕ) (P : List ℕ → Type 0) → IfSome left (λ bytes. text ≡ bytes) → P text → IfSome left P
of_input_text None text P same h = tt
of_input_text (Some bytes) text P same h = subst P same h

-- ---- where memory is refused

in_any_case : (left : Option (List ℕ)) (P : List ℕ → Type 0) → ((text : List ℕ) → P text) → IfSome left P
in_any_case None P holds = tt
in_any_case (Some bytes) P holds = holds bytes

module _ {S K : Type 0} (source : S → Inlet) (sink : K → Outlet) (i j : S) (o p : K) where
  -- the output is as it was, unless the job may stop short
  abbrev pub IsUntouched : Reading → Type 0
  IsUntouched reading = IfSome (text_of (limit_of reading) (source i).left) (λ text. (MayStopShort reading text → ⊥) → p ≡ o)

  untouched : (reading : Reading) → p ≡ o → IsUntouched reading
  untouched reading same = in_any_case (text_of (limit_of reading) (source i).left) (λ text. (MayStopShort reading text → ⊥) → p ≡ o) (λ text never. same)

  front_unless : (reading : Reading) → (p ≡ o) ⊎ ((front : WritesAnswerFront source sink reading i o p) × MayStopShort reading front.answer.text) → IsUntouched reading
  front_unless reading (inl same) = untouched reading same
  front_unless reading (inr (front, short)) =
      of_input_text (text_of (limit_of reading) (source i).left) front.answer.text (λ text. (MayStopShort reading text → ⊥) → p ≡ o) front.answer.of_input (λ never. absurd (never short))

  pub untouched_unless : (words : List (List ℕ)) (job : Job) → job_of words ≡ Some job → ((j ≡ i) × (p ≡ o)) ⊎ ForJob words (λ reading. LacksMemory source sink reading i j o p) → IsUntouched (reading_of job)
  untouched_unless words job asked (inl same) = untouched (reading_of job) same.1
  untouched_unless words job asked (inr lacks) =
      front_unless (reading_of job) (subst (λ (other : Job). LacksMemory source sink (reading_of other) i j o p) (same_Some _ _ (sym lacks.1 ∙ asked)) lacks.2).output_grown

-- ---- what `resume` writes of what `save` wrote

-- what `save` writes for a text is what `resume` goes on from
abbrev pub SavesSuch : Type 0
SavesSuch = (o : SaveOptions) (text document : List ℕ) (end : End) → KeepsLimits (readings.Model (models.Save o)) → Answers (readings.Model (models.Save o)) text (Given end document) → SavesTheRun text document o

-- what is answered to a document that reads as a saved run is answered for that
abbrev pub AnswersWhatReads : Type 0
AnswersWhatReads = (job : SavedJob) (text : List ℕ) (g : EventGraph) (s : SavedRun) (a : Answer) → ReadsSaved text g s → Answers (readings.Saved job) text a → AnswersSaved job g s a

-- ---- the answer of the job

abbrev pub IsComplete : Reading → Status → Option (List ℕ) → (List ℕ → Type 0) → Type 0
IsComplete reading status left Grows = IfSome (text_of (limit_of reading) left) (λ text. (a : Answer) × Answers reading text a × (status ≡ status_of_answer a) × Grows (bytes_of_answer a))

if_answers : (job : Reading) (left : Option (List ℕ)) (P Q : Answer → Type 0) (text : List ℕ) (a : Answer) → IfSome left (λ bytes. text ≡ bytes) → Answers job text a → P a → Q a → IfSome left (λ bytes. (b : Answer) × Answers job bytes b × P b × Q b)
if_answers job None P Q text a same answers x y = tt
if_answers job (Some bytes) P Q text a same answers x y = (a, subst (λ (t : List ℕ). Answers job t a) same answers, x, y)

unwritten : {K : Type 0} (sink : K → Outlet) {o p : K} → p ≡ o → GrowsBy (sink o).written (sink p).written []
unwritten {K} sink {o} {p} same = subst (λ (q : K). GrowsBy (sink o).written (sink q).written []) (sym same) (GrowsBy-nothing (sink o).written)

-- what reads as a model is reduced, or memory is short
abbrev pub ReducesWhatReads : Type 0
ReducesWhatReads = (text : List ℕ) (g : EventGraph) (a : Answer) → Reads text g → Answers (readings.Model models.Reduce) text a → status_of_answer a ≡ statuses.Done

always_reduced : ReducesWhatReads → (status : Status) (left : Option (List ℕ)) (Grows : List ℕ → Type 0) → (status ≡ statuses.NoMemory) ⊎ IsComplete (readings.Model models.Reduce) status left Grows
    → IfSome left (λ text. (g : EventGraph) → Reads text g → (status ≡ statuses.Done) ⊎ (status ≡ statuses.NoMemory))
always_reduced law status None Grows h = tt
always_reduced law status (Some text) Grows (inl short) = λ g reads. inr short
always_reduced law status (Some text) Grows (inr (a, answers, is, grows)) = λ g reads. inl (is ∙ law text g a reads answers)

-- ---- from the job to the call

module _ {S K : Type 0} (source : S → Inlet) (sink : K → Outlet) (words : List (List ℕ)) (i j : S) (o p : K) where
  -- what the job does, the call does
  pub answer_of_job : (job : Job) → job_of words ≡ Some job → (reading : Reading) → reading ≡ reading_of job → (r : Result DeliveryOutcome Failure) → AnswersInput source sink reading r i j o p → AnswersWords source sink words r i j o p
  answer_of_job job asked reading same r h = by r (subst (λ (x : Reading). AnswersInput source sink x r i j o p) same h)
    where
      by : (r : Result DeliveryOutcome Failure) → AnswersInput source sink (reading_of job) r i j o p → AnswersWords source sink words r i j o p
      by (Ok s) h = (job, asked, h)
      by (Err failures.Usage) h = absurd h
      by (Err failures.ReadFault) h = (job, asked, h)
      by (Err failures.WriteFault) h = (job, asked, h)
      by (Err failures.NoMemory) h = inr (job, asked, h)

module _ {S K E : Type 0} (source : S → Inlet) (sink : K → Outlet) (errors : E → Outlet) (words : List (List ℕ)) (i j : S) (o p : K) (e : E) where
  -- a job that wrote is reported by its status alone
  answer_reported : (end : End) → AnswersWords source sink words (Ok (said.Gave end)) i j o p → Ends source sink errors words i j o p e e (status_of_end end)
  answer_reported ends.Done h = (h, refl)
  answer_reported ends.ModelFault h = (h, refl)
  answer_reported ends.Budget h = (h, refl)
  answer_reported ends.Rejected h = (h, refl)
  answer_reported ends.Differs h = (h, refl)
  answer_reported ends.Unknown h = (h, refl)

  module _ (f : E) where
    -- a refusal is reported by its line
    refusal_reported : (why : Refusal) (line : List ℕ) → AnswersWords source sink words (Ok (said.Refused why line)) i j o p → ReportsLine (errors e) (errors f) line → Ends source sink errors words i j o p e f (status_of_refusal why)
    refusal_reported refusals.Refused line h reported = (line, h, reported)
    refusal_reported refusals.BadStart line h reported = (line, h, reported)
    refusal_reported refusals.Finished line h reported = (line, h, reported)
    refusal_reported refusals.TooLarge line h reported = (line, h, reported)

    -- a failure is reported by its line
    failure_reported : (failure : Failure) → AnswersWords source sink words (Err failure) i j o p → ReportsLine (errors e) (errors f) (failure_line failure) → Ends source sink errors words i j o p e f (status_of_failure failure)
    failure_reported failures.Usage h reported = (h.0, h.1, h.2, reported)
    failure_reported failures.ReadFault h reported = (h, reported)
    failure_reported failures.WriteFault h reported = (h, reported)
    failure_reported failures.NoMemory h reported = (h, reported)

    -- what was answered and reported is a row of the table
    pub reported_ends : (r : Result DeliveryOutcome Failure) (status : Status) → AnswersWords source sink words r i j o p → Reports errors r e f status → Ends source sink errors words i j o p e f status
    reported_ends (Ok (said.Gave end)) status h k =
        subst (λ (s : Status). Ends source sink errors words i j o p e f s) (sym k.1)
        (subst (λ (g : E). Ends source sink errors words i j o p e g (status_of_end end)) (sym k.0) (answer_reported end h))
    reported_ends (Ok (said.Refused why line)) status h k =
        subst (λ (s : Status). Ends source sink errors words i j o p e f s) (sym k.1) (refusal_reported why line h k.0)
    reported_ends (Err failure) status h k =
        subst (λ (s : Status). Ends source sink errors words i j o p e f s) (sym k.1) (failure_reported failure h k.0)

    -- the bytes of the output grew by these
    abbrev Grows : List ℕ → Type 0
    Grows bytes = GrowsBy (sink o).written (sink p).written bytes

    -- what the job that the words ask for gave, the asked one gave
    reply_of_job : (job : Job) → job_of words ≡ Some job → (a : Answer) → (other : Job) → job_of words ≡ Some other → RepliesToInput (reading_of other) (source i) a → RepliesToInput (reading_of job) (source i) a
    reply_of_job job asked a other is answer = subst (λ (x : Job). RepliesToInput (reading_of x) (source i) a) (same_Some _ _ (sym is ∙ asked)) answer

    -- what the asked job gave is such for what the input had
    pub written_is_such : (job : Job) → job_of words ≡ Some job → (reading : Reading) → reading_of job ≡ reading → (end : End) (IsSuch : List ℕ → List ℕ → Type 0)
        → ((text bytes : List ℕ) → Answers reading text (Given end bytes) → IsSuch text bytes) → ForJob words (λ reading. WritesAnswer source sink reading end i j o p)
        → IfSome (text_of (limit_of reading) (source i).left) (λ text. (out : List ℕ) × IsSuch text out × Grows out)
    written_is_such job asked reading is end IsSuch law done =
        let answer = subst (λ (r : Reading). RepliesToInput r (source i) (Given end done.2.bytes)) is (reply_of_job job asked (Given end done.2.bytes) done.0 done.1 done.2.answer) in
        of_input_text (text_of (limit_of reading) (source i).left) answer.text (λ text. (out : List ℕ) × IsSuch text out × Grows out) answer.of_input (done.2.bytes, law answer.text done.2.bytes answer.answers, done.2.output_grown)

    -- what a job on a model gives is such for what the input had
    given_is_such : (job : Job) (of_model : ModelJob) → reading_of job ≡ readings.Model of_model → (IsSuch : List ℕ → List ℕ → Type 0) → GivesSuch of_model IsSuch
        → (status : Status) → Ends source sink errors words i j o p e f status → job_of words ≡ Some job → status ≡ statuses.Done → IfSome (source i).left (λ text. (out : List ℕ) × IsSuch text out × Grows out)
    given_is_such job of_model is IsSuch law status h asked is_done =
        written_is_such job asked (readings.Model of_model) is ends.Done IsSuch (λ text bytes. law text bytes ends.Done) (subst (λ (s : Status). Ends source sink errors words i j o p e f s) is_done h).0

    -- what `certify` finds sound means the same
    certified_means : SoundMeansTheSame → (status : Status) → Ends source sink errors words i j o p e f status → job_of words ≡ Some jobs.Certify → status ≡ statuses.Done → IfSome (source i).left Certifies
    certified_means law status h asked is_done =
        let done = (subst (λ (s : Status). Ends source sink errors words i j o p e f s) is_done h).0 in
        let answer = reply_of_job jobs.Certify asked (Given ends.Done done.2.bytes) done.0 done.1 done.2.answer in
        of_input_text (source i).left answer.text Certifies answer.of_input (law answer.text done.2.bytes answer.answers)

    -- what `save` writes is what `resume` goes on from
    saved_is_such : SavesSuch → ((job : Job) → job_of words ≡ Some job → KeepsLimits (reading_of job)) → (options : SaveOptions)
        → (status : Status) → Ends source sink errors words i j o p e f status → job_of words ≡ Some (jobs.Save options.until options.seed options.events options.starts) → status ≡ statuses.Done
        → IfSome (source i).left (λ text. (out : List ℕ) × SavesTheRun text out options × Grows out)
    saved_is_such law limits options status h asked is_done =
        given_is_such (jobs.Save options.until options.seed options.events options.starts) (models.Save options) refl (λ text out. SavesTheRun text out options)
        (λ text out end answers. law options text out end (limits (jobs.Save options.until options.seed options.events options.starts) asked) answers) status h asked is_done

    -- if memory is refused, nothing is written, unless the job may stop short
    pub writes_nothing : (job : Job) → job_of words ≡ Some job → (status : Status) → Ends source sink errors words i j o p e f status → status ≡ statuses.NoMemory → IsUntouched source sink i j o p (reading_of job)
    writes_nothing job asked status h is_short = untouched_unless source sink i j o p words job asked (subst (λ (s : Status). Ends source sink errors words i j o p e f s) is_short h).0

    module _ (job : Job) (asked : job_of words ≡ Some job) where
      given_complete : (end : End) → ForJob words (λ reading. WritesAnswer source sink reading end i j o p) → IsComplete (reading_of job) (status_of_end end) (source i).left Grows
      given_complete end h =
          let answer = reply_of_job job asked (Given end h.2.bytes) h.0 h.1 h.2.answer in
          if_answers (reading_of job) (text_of (limit_of (reading_of job)) (source i).left) (λ a. status_of_end end ≡ status_of_answer a) (λ a. Grows (bytes_of_answer a)) answer.text (Given end h.2.bytes) answer.of_input answer.answers refl h.2.output_grown

      refusal_complete : (why : Refusal) (line : List ℕ) → ForJob words (λ reading. Refuses source sink reading why line i j o p) → IsComplete (reading_of job) (status_of_refusal why) (source i).left Grows
      refusal_complete why line h =
          let answer = reply_of_job job asked (Refused why line) h.0 h.1 h.2.answer in
          if_answers (reading_of job) (text_of (limit_of (reading_of job)) (source i).left) (λ a. status_of_refusal why ≡ status_of_answer a) (λ a. Grows (bytes_of_answer a)) answer.text (Refused why line) answer.of_input answer.answers refl (unwritten sink h.2.output_untouched)

      -- no status is left but that of the answer, and out of memory
      pub complete : (HasRisen (source i).faults (source j).faults → ⊥) → (HasRisen (sink o).faults (sink p).faults → ⊥) → (status : Status) → Ends source sink errors words i j o p e f status → (status ≡ statuses.NoMemory) ⊎ IsComplete (reading_of job) status (source i).left Grows
      complete read wrote statuses.Done h = inr (given_complete ends.Done h.0)
      complete read wrote statuses.Refused h = inr (refusal_complete refusals.Refused h.0 h.1)
      complete read wrote statuses.Usage h = absurd (some_is_not_none _ _ h.0 asked)
      complete read wrote statuses.ReadFault h = absurd (read h.0.2.input_failed)
      complete read wrote statuses.WriteFault h = absurd (wrote h.0.2.output_failed)
      complete read wrote statuses.NoMemory h = inl refl
      complete read wrote statuses.ModelFault h = inr (given_complete ends.ModelFault h.0)
      complete read wrote statuses.Budget h = inr (given_complete ends.Budget h.0)
      complete read wrote statuses.Rejected h = inr (given_complete ends.Rejected h.0)
      complete read wrote statuses.Differs h = inr (given_complete ends.Differs h.0)
      complete read wrote statuses.Unknown h = inr (given_complete ends.Unknown h.0)
      complete read wrote statuses.BadStart h = inr (refusal_complete refusals.BadStart h.0 h.1)
      complete read wrote statuses.Finished h = inr (refusal_complete refusals.Finished h.0 h.1)
      complete read wrote statuses.TooLarge h = inr (refusal_complete refusals.TooLarge h.0 h.1)

      -- where neither memory, the input nor the output failed, it is that of the answer
      pub complete_unless_failed : (status : Status) → Ends source sink errors words i j o p e f status → (status ≡ statuses.ReadFault → ⊥) → (status ≡ statuses.WriteFault → ⊥) → (status ≡ statuses.NoMemory → ⊥) → IsComplete (reading_of job) status (source i).left Grows
      complete_unless_failed statuses.Done h read wrote held = given_complete ends.Done h.0
      complete_unless_failed statuses.Refused h read wrote held = refusal_complete refusals.Refused h.0 h.1
      complete_unless_failed statuses.Usage h read wrote held = absurd (some_is_not_none _ _ h.0 asked)
      complete_unless_failed statuses.ReadFault h read wrote held = absurd (read refl)
      complete_unless_failed statuses.WriteFault h read wrote held = absurd (wrote refl)
      complete_unless_failed statuses.NoMemory h read wrote held = absurd (held refl)
      complete_unless_failed statuses.ModelFault h read wrote held = given_complete ends.ModelFault h.0
      complete_unless_failed statuses.Budget h read wrote held = given_complete ends.Budget h.0
      complete_unless_failed statuses.Rejected h read wrote held = given_complete ends.Rejected h.0
      complete_unless_failed statuses.Differs h read wrote held = given_complete ends.Differs h.0
      complete_unless_failed statuses.Unknown h read wrote held = given_complete ends.Unknown h.0
      complete_unless_failed statuses.BadStart h read wrote held = refusal_complete refusals.BadStart h.0 h.1
      complete_unless_failed statuses.Finished h read wrote held = refusal_complete refusals.Finished h.0 h.1
      complete_unless_failed statuses.TooLarge h read wrote held = refusal_complete refusals.TooLarge h.0 h.1

    -- a text that reads as a model is reduced, or memory is short
    pub reduces_what_reads : ReducesWhatReads → job_of words ≡ Some jobs.Reduce → (HasRisen (source i).faults (source j).faults → ⊥) → (HasRisen (sink o).faults (sink p).faults → ⊥) → (status : Status) → Ends source sink errors words i j o p e f status
        → IfSome (source i).left (λ text. (g : EventGraph) → Reads text g → (status ≡ statuses.Done) ⊎ (status ≡ statuses.NoMemory))
    reduces_what_reads law asked read wrote status h = always_reduced law status (source i).left Grows (complete jobs.Reduce asked read wrote status h)

    -- of what `save` wrote the rest is written
    rest_written : AnswersWhatReads → (options : ResumeOptions) (status : Status) (left : Option (List ℕ)) → IsComplete (reading_of (jobs.Resume options.until options.events options.room)) status left Grows
        → IfSome left (WritesTheRest options.until options.events Grows)
    rest_written law options status None h = tt
    rest_written law options status (Some document) (a, answers, is, grows) = λ text saved_by saves early in_budget.
        let answers_run = law (saved_jobs.Resume options) document saves.model (saved saved_by.seed saved_by.events saves.here) a saves.reads_back answers in
        subst Grows (ap bytes_of_answer (saves.resumed options.until options.events options.room early in_budget a answers_run)) grows

    goes_on : AnswersWhatReads → (options : ResumeOptions) → job_of words ≡ Some (jobs.Resume options.until options.events options.room) → (status : Status) → Ends source sink errors words i j o p e f status
        → (status ≡ statuses.ReadFault → ⊥) → (status ≡ statuses.WriteFault → ⊥) → (status ≡ statuses.NoMemory → ⊥) → IfSome (source i).left (WritesTheRest options.until options.events Grows)
    goes_on law options asked status h read wrote held =
        rest_written law options status (source i).left (complete_unless_failed (jobs.Resume options.until options.events options.room) asked status h read wrote held)

    -- all promises, by the laws of what jobs write
    pub promises_kept : GivesSuch models.Reduce KeepsMeaning → GivesSuch models.Fuse (RewritesTheSame Fused) → GivesSuch models.Narrow (RewritesTheSame IsNarrowed)
        → SavesSuch → AnswersWhatReads → ((job : Job) → job_of words ≡ Some job → KeepsLimits (reading_of job)) → SoundMeansTheSame
        → (status : Status) → Ends source sink errors words i j o p e f status → KeepsPromises (λ s. status ≡ s) words (source i) (sink o) (sink p)
    promises_kept reduces fuses narrows saves resumes limits sound status h = record {
      printed = given_is_such jobs.Print models.Print refl PrintsModel prints_model status h;
      reduced = given_is_such jobs.Reduce models.Reduce refl KeepsMeaning reduces status h;
      fused = given_is_such jobs.Fuse models.Fuse refl (RewritesTheSame Fused) fuses status h;
      narrowed = given_is_such jobs.Narrow models.Narrow refl (RewritesTheSame IsNarrowed) narrows status h;
      saved = λ options. saved_is_such saves limits options status h;
      resumed = λ options asked. goes_on resumes options asked status h;
      certified = certified_means sound status h;
    }
