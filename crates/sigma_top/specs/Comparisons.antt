-- What the answers of `compare` mean, as a promise of the call.
use Rattle.std.specs.Prelude.{◌≡◌, ℕ, List, Some, IfSome}
use Rattle.sig_base.specs.Sink.{Outlet, GrowsBy}
use Rattle.sig_base.specs.Source.{Inlet}
use Rattle.command_words.specs.declared.compare_options.CompareOptions.{CompareOptions}
use Rattle.command_words.specs.declared.job.Job.TheVariants as jobs
use Rattle.command_words.specs.Jobs.{job_of}
use Rattle.answer_delivery.specs.declared.status.Status.{Status}
use Rattle.answer_delivery.specs.declared.status.Status.TheVariants as statuses
use Rattle.job_answers.specs.ComparedModels.{FoundSame, FoundApart, FoundNothing}

-- What is seen of a call with these words: the status with which it ended, the input before it, and the output before and after.
module _ (EndsWith : Status → Type 0) (words : List (List ℕ)) (input : Inlet) (before after : Outlet) where
  -- where the words ask for `compare` and it ends so, the output grew by bytes for which `IsSuch` holds with the input's text
  abbrev pub FindsSuch : CompareOptions → Status → (List ℕ → List ℕ → Type 0) → Type 0
  FindsSuch o status IsSuch =
      job_of words ≡ Some (jobs.Compare o.until o.seed o.events o.starts o.runs) → EndsWith status
      → IfSome input.left (λ text. (out : List ℕ) × IsSuch text out × GrowsBy before.written after.written out)

  pub record ComparesModels : Type 0 where
    -- The two models that were read mean the same.
    pub same : (o : CompareOptions) → FindsSuch o statuses.Done FoundSame
    -- They don't, and what is written shows where.
    pub differ : (o : CompareOptions) → FindsSuch o statuses.Differs (FoundApart o)
    -- No run from 1 to `--runs` shows a difference.
    pub unknown : (o : CompareOptions) → FindsSuch o statuses.Unknown (FoundNothing o)
