-- What each job is for, as a promise of the call. The table of statuses says which answers are written.
use Rattle.std.specs.Prelude.{◌≡◌, ℕ, List, Some, IfSome}
use Rattle.sig_base.specs.Sink.{Outlet, GrowsBy}
use Rattle.sig_base.specs.Source.{Inlet}
use Rattle.model_core.specs.EventGraph.{EventGraph}
use Rattle.model_core.specs.Ranges.Narrowed.{IsNarrowed}
use Rattle.model_core.specs.Rules.Fuse.{Fused}
use Rattle.model_core.specs.Static.Reading.{Reads}
use Rattle.model_core.specs.Text.Canonical.{canonical}
use Rattle.command_words.specs.declared.job.Job.{Job}
use Rattle.command_words.specs.declared.job.Job.TheVariants as jobs
use Rattle.command_words.specs.declared.resume_options.ResumeOptions.{ResumeOptions}
use Rattle.command_words.specs.declared.save_options.SaveOptions.{SaveOptions}
use Rattle.command_words.specs.declared.reading.Reading.{Reading}
use Rattle.command_words.specs.Jobs.{job_of}
use Rattle.command_words.specs.Readings.{limit_of}
use Rattle.answer_delivery.specs.declared.answer.Answer.{Answer}
use Rattle.answer_delivery.specs.declared.status.Status.{Status}
use Rattle.answer_delivery.specs.declared.status.Status.TheVariants as statuses
use Rattle.job_answers.specs.Answers.{Answers}
use Rattle.job_answers.specs.CertifyAnswer.{Certifies}
use Rattle.job_answers.specs.ReduceAnswer.{KeepsMeaning}
use Rattle.job_answers.specs.RewrittenAnswer.{RewritesTheSame}
use Rattle.job_answers.specs.SavedAndResumed.{SavesTheRun, WritesTheRest}
use Rattle.answer_delivery.specs.Statuses.{status_of_answer, bytes_of_answer, exit_status_of}
use Rattle.sigma_top.specs.StatusTable.{text_of}

-- the status is that of an answer to the text, where the input gives one, and the output grew by the answer's bytes
abbrev pub IsOfAnswer : Reading → Inlet → Status → Outlet → Outlet → Type 0
IsOfAnswer reading input status before after =
    IfSome (text_of (limit_of reading) input.left) (λ text. (a : Answer) × Answers reading text a
    × (status ≡ status_of_answer a) × GrowsBy before.written after.written (bytes_of_answer a))

-- what is written for the text is the canonical text of the model as which it reads
abbrev pub PrintsModel : List ℕ → List ℕ → Type 0
PrintsModel text out = (g : EventGraph) × Reads text g × (out ≡ canonical g)

-- What is seen of a call with these words: the status with which it ended, the input before it, and the output before and after.
module _ (EndsWith : Status → Type 0) (words : List (List ℕ)) (input : Inlet) (before after : Outlet) where
  -- where the words ask for this job and it is done, the output grew by bytes for which `IsSuch` holds with the input's text
  abbrev pub WritesSuch : Job → (List ℕ → List ℕ → Type 0) → Type 0
  WritesSuch job IsSuch =
      job_of words ≡ Some job → EndsWith statuses.Done
      → IfSome input.left (λ text. (out : List ℕ) × IsSuch text out × GrowsBy before.written after.written out)

  pub record KeepsPromises : Type 0 where
    -- What `print` writes is the canonical text of the model that was read.
    pub printed : WritesSuch jobs.Print PrintsModel
    -- What `reduce` writes means the same as what it read.
    pub reduced : WritesSuch jobs.Reduce KeepsMeaning
    -- What `fuse` writes is the model that was read with its duplicated vertices merged, and means the same.
    pub fused : WritesSuch jobs.Fuse (RewritesTheSame Fused)
    -- What `narrow` writes is the model that was read with the ranges that it needs, and means the same.
    pub narrowed : WritesSuch jobs.Narrow (RewritesTheSame IsNarrowed)
    -- What `save` writes is a document of the model and of its run after so many events. It reads back, and the saved run
    -- goes on from there as the whole run does.
    pub saved : (o : SaveOptions)
        → WritesSuch (jobs.Save o.until o.seed o.events o.starts) (λ text out. SavesTheRun text out o)
    -- What `resume` writes of what `save` wrote is the history of that run from there on, unless memory, the input or the
    -- output fails.
    pub resumed : (o : ResumeOptions) → job_of words ≡ Some (jobs.Resume o.until o.events o.room)
        → (EndsWith statuses.ReadFault → ⊥) → (EndsWith statuses.WriteFault → ⊥) → (EndsWith statuses.NoMemory → ⊥)
        → IfSome input.left (WritesTheRest o.until o.events (GrowsBy before.written after.written))
    -- The two models of a document that `certify` finds sound mean the same.
    pub certified : job_of words ≡ Some jobs.Certify → EndsWith statuses.Done → IfSome input.left Certifies

-- what `program` promises of a call with these words that ended with this exit status
abbrev pub PromisesOf : List (List ℕ) → ℕ → Inlet → Outlet → Outlet → Type 0
PromisesOf words number input before after = KeepsPromises (λ status. number ≡ exit_status_of status) words input before after
