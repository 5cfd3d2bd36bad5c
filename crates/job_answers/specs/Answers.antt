-- What is answered to a text, by what a job reads and asks. Nothing is said here of where the text comes from or where the
-- answer goes.
use Rattle.std.specs.Prelude.{◌≡◌, ◌≤◌, ◌<◌, ◌⊎◌, ℕ, List, [], ◌++◌, length, codes, Option, IfSome, IsSomeAnd}
use Rattle.command_words.specs.declared.reading.BareJob.{BareJob}
use Rattle.command_words.specs.declared.reading.BareJob.TheVariants as bare
use Rattle.command_words.specs.declared.reading.DocumentJob.{DocumentJob}
use Rattle.command_words.specs.declared.reading.DocumentJob.TheVariants as documents
use Rattle.command_words.specs.declared.reading.ModelJob.{ModelJob}
use Rattle.command_words.specs.declared.reading.ModelJob.TheVariants as models
use Rattle.command_words.specs.declared.reading.PairJob.{PairJob}
use Rattle.command_words.specs.declared.reading.PairJob.TheVariants as pairs
use Rattle.command_words.specs.declared.reading.SavedJob.{SavedJob}
use Rattle.command_words.specs.declared.reading.SavedJob.TheVariants as saved_jobs
use Rattle.command_words.specs.declared.reading.Reading.{Reading}
use Rattle.command_words.specs.declared.reading.Reading.TheVariants as readings
use Rattle.command_words.specs.Readings.{limit_of}
use Rattle.model_core.specs.EventGraph.{EventGraph}
use Rattle.model_core.specs.Static.Reading.{Reads, ReadsDocument}
use Rattle.model_core.specs.Text.Canonical.{canonical}
use Rattle.model_core.specs.Ranges.Narrowed.{IsNarrowed}
use Rattle.model_core.specs.Rules.Fuse.{Fused}
use Rattle.model_core.specs.Rules.Reduction.{RuleApplication}
use Rattle.model_core.specs.Rules.Verdict.{verdict}
use Rattle.model_core.specs.Saved.SavedRun.{SavedRun}
use Rattle.answer_delivery.specs.declared.answer.Answer.{Answer}
use Rattle.answer_delivery.specs.declared.complaint.Complaint.{Complaint}
use Rattle.conflict_report.specs.ConflictText.{conflict_text}
use Rattle.describe.specs.Description.{description}
use Rattle.trial_report.specs.TrialText.{Summarises}
use Rattle.use_analysis.specs.UsesText.{uses_text}
use Rattle.answer_delivery.specs.AnswerForms.{done, IsDone, refused, too_long}
use Rattle.answer_delivery.specs.Complaints.{IsComplaint, message_of, byte_line}
use Rattle.job_answers.specs.DocumentComplaints.{IsDocumentComplaint}
use Rattle.job_answers.specs.PairComplaints.{IsPairComplaint}
use Rattle.job_answers.specs.PairReading.{ReadsPair}
use Rattle.job_answers.specs.SavedComplaints.{IsSavedComplaint}
use Rattle.job_answers.specs.SavedReading.{ReadsSaved}
use Rattle.job_answers.specs.ReduceAnswer.{Reduces}
use Rattle.job_answers.specs.RewrittenAnswer.{Rewrites}
use Rattle.job_answers.specs.RunAnswer.{run_answer, ExceedsRoom}
use Rattle.job_answers.specs.ReplicateAnswer.{replicate_answer}
use Rattle.job_answers.specs.SaveAnswer.{save_answer}
use Rattle.job_answers.specs.ResumeAnswer.{resume_answer, ResumedExceedsRoom}
use Rattle.job_answers.specs.CertifyAnswer.{answer_of_verdict}
use Rattle.job_answers.specs.CompareAnswer.{Compares}

-- ---- what is answered for what was read, job by job

-- the line of an accepted model
abbrev pub accepted_line : EventGraph → List ℕ
accepted_line g = codes "accepted " ++ g.name ++ codes "\n"

-- `check` says that the model is accepted, `print` writes its canonical text, `reduce` another one that means the same with
-- its certificate, `uses` who uses each variable, `conflicts` which pairs of vertices are in conflict, `fuse` and `narrow`
-- another text that means the same, `describe` the model in English, `run` the history of a run, `replicate` the report of
-- many runs, and `save` a document from which a run can go on
abbrev pub AnswersModel : ModelJob → EventGraph → Answer → Type 0
AnswersModel models.Check g a = a ≡ done (accepted_line g)
AnswersModel models.Print g a = a ≡ done (canonical g)
AnswersModel models.Reduce g a = IsDone (Reduces g) a
AnswersModel models.Uses g a = a ≡ done (uses_text g)
AnswersModel models.Conflicts g a = a ≡ done (conflict_text g)
AnswersModel models.Fuse g a = IsDone (Rewrites Fused g) a
AnswersModel models.Narrow g a = IsDone (Rewrites IsNarrowed g) a
AnswersModel models.Describe g a = a ≡ done (description g)
AnswersModel (models.Run options) g a = a ≡ run_answer g options.until options.seed options.events options.starts
AnswersModel (models.Replicate options) g a = a ≡ replicate_answer g options
AnswersModel (models.Save options) g a = a ≡ save_answer g options

-- `certify` says whether the certificate holds
abbrev pub AnswersDocument : DocumentJob → EventGraph → List RuleApplication → EventGraph → Answer → Type 0
AnswersDocument documents.Certify original applications reduced a = a ≡ answer_of_verdict (verdict original applications reduced)

-- `compare` says whether two models mean the same, as far as it is known
abbrev pub AnswersPair : PairJob → EventGraph → EventGraph → Answer → Type 0
AnswersPair (pairs.Compare options) g h a = Compares g h options a

-- `resume` writes the history of the saved run from there on
abbrev pub AnswersSaved : SavedJob → EventGraph → SavedRun → Answer → Type 0
AnswersSaved (saved_jobs.Resume options) g s a = a ≡ resume_answer g s options.until options.events

-- `trial` summarises a generated model, its reduction, and a run of each
abbrev pub AnswersAlone : BareJob → Answer → Type 0
AnswersAlone (bare.Trial options) a = IsDone (Summarises options.seed options.vertices options.until options.events) a

-- A job on a model that writes as it goes may lack memory after a front of its bytes: `run` where the run needs more room than
-- was asked for, `replicate` anywhere.
abbrev pub MayLackMemory : ModelJob → EventGraph → Type 0
MayLackMemory (models.Run options) g = ExceedsRoom g options.until options.seed options.events options.starts options.room
MayLackMemory (models.Replicate options) g = Unit {0}
MayLackMemory job g = ⊥

-- a job on a saved document may too: `resume` where the run needs more room than it has
abbrev pub SavedMayLackMemory : SavedJob → EventGraph → SavedRun → Type 0
SavedMayLackMemory (saved_jobs.Resume options) g s = ResumedExceedsRoom g s options

-- the bytes are none, and the job may have none: `uses` where the model has no variables, and `conflicts` where no two vertices
-- are in conflict
abbrev pub HasNothingToWrite : Reading → List ℕ → Type 0
HasNothingToWrite (readings.Model models.Uses) bytes = bytes ≡ []
HasNothingToWrite (readings.Model models.Conflicts) bytes = bytes ≡ []
HasNothingToWrite reading bytes = ⊥

-- ---- what is answered to a text within its limit, reading by reading

-- the text is refused with the line of its complaint
pub record IsRefused (IsSo : Complaint → ℕ → Type 0) (a : Answer) : Type 0 where
  pub what : Complaint
  pub at : ℕ
  pub complaint : IsSo what at
  pub refuses : a ≡ refused (byte_line at (message_of what))

-- the text is refused, or it reads as something that has this answer; of a job that reads nothing there is an answer alone
abbrev pub Responds : Reading → List ℕ → Answer → Type 0
Responds (readings.Model job) text a = IsRefused (IsComplaint text) a ⊎ ((g : EventGraph) × Reads text g × AnswersModel job g a)
Responds (readings.Document job) text a =
    IsRefused (IsDocumentComplaint text) a
    ⊎ ((g : EventGraph) × (applications : List RuleApplication) × (h : EventGraph) × ReadsDocument text g applications h × AnswersDocument job g applications h a)
Responds (readings.Pair job) text a =
    IsRefused (IsPairComplaint text) a ⊎ ((g : EventGraph) × (h : EventGraph) × ReadsPair text g h × AnswersPair job g h a)
Responds (readings.Saved job) text a = IsRefused (IsSavedComplaint text) a ⊎ ((g : EventGraph) × (s : SavedRun) × ReadsSaved text g s × AnswersSaved job g s a)
Responds (readings.Nothing job) text a = AnswersAlone job a

-- where memory may be refused after a front of the answer's bytes
abbrev pub MayStopShort : Reading → List ℕ → Type 0
MayStopShort (readings.Model job) text = (g : EventGraph) × Reads text g × MayLackMemory job g
MayStopShort (readings.Document job) text = ⊥
MayStopShort (readings.Pair job) text = ⊥
MayStopShort (readings.Saved job) text = (g : EventGraph) × (s : SavedRun) × ReadsSaved text g s × SavedMayLackMemory job g s
MayStopShort (readings.Nothing job) text = ⊥

-- ---- what is answered to any text

-- the text has at most so many bytes
abbrev pub IsWithin : Option ℕ → List ℕ → Type 0
IsWithin limit text = IfSome limit (λ most. length text ≤ most)

-- the text has more bytes than that
abbrev pub IsOver : Option ℕ → List ℕ → Type 0
IsOver limit text = IsSomeAnd limit (λ most. most < length text)

-- the answer to a text
abbrev pub Answers : Reading → List ℕ → Answer → Type 0
Answers reading text a = (IsOver (limit_of reading) text × (a ≡ refused too_long)) ⊎ (IsWithin (limit_of reading) text × Responds reading text a)
