-- What the answers of `compare` mean holds of the call.
use Rattle.std.proofs.Common.{◌≡◌, ℕ, List, Some, refl, subst}
use Rattle.std.specs.Prelude.{IfSome}
use Rattle.sig_base.specs.Sink.{Outlet, GrowsBy}
use Rattle.sig_base.specs.Source.{Inlet}
use Rattle.command_words.specs.declared.compare_options.CompareOptions.{CompareOptions}
use Rattle.command_words.specs.declared.job.Job.{Job}
use Rattle.command_words.specs.declared.job.Job.TheVariants as jobs
use Rattle.command_words.specs.declared.reading.PairJob.TheVariants as pairs
use Rattle.command_words.specs.declared.reading.Reading.TheVariants as readings
use Rattle.command_words.specs.Jobs.{job_of}
use Rattle.command_words.specs.KeptLimits.{KeepsLimits}
use Rattle.command_words.specs.Readings.{reading_of}
use Rattle.answer_delivery.specs.declared.answer.Answer.TheVariants.{Given}
use Rattle.answer_delivery.specs.declared.status.End.{End}
use Rattle.answer_delivery.specs.declared.status.End.TheVariants as ends
use Rattle.answer_delivery.specs.declared.status.Status.{Status}
use Rattle.answer_delivery.specs.declared.status.Status.TheVariants as statuses
use Rattle.job_answers.specs.Answers.{Answers}
use Rattle.job_answers.specs.ComparedModels.{FoundSame, FoundApart, FoundNothing}
use Rattle.sigma_top.specs.Comparisons.{ComparesModels}
use Rattle.sigma_top.specs.StatusTable.{ForJob, WritesAnswer, Ends}
use Rattle.sigma_top.proofs.TopCall.{written_is_such}

-- what `compare` gives for a text with this end is such
abbrev pub ComparesSuch : CompareOptions → End → (List ℕ → List ℕ → Type 0) → Type 0
ComparesSuch options end IsSuch = (text bytes : List ℕ) → Answers (readings.Pair (pairs.Compare options)) text (Given end bytes) → IsSuch text bytes

abbrev pub SameIsFound : Type 0
SameIsFound = (options : CompareOptions) → ComparesSuch options ends.Done FoundSame

abbrev pub DifferentIsFound : Type 0
DifferentIsFound = (options : CompareOptions) (text bytes : List ℕ) → KeepsLimits (readings.Pair (pairs.Compare options)) → Answers (readings.Pair (pairs.Compare options)) text (Given ends.Differs bytes) → FoundApart options text bytes

abbrev pub NothingIsFound : Type 0
NothingIsFound = (options : CompareOptions) → ComparesSuch options ends.Unknown (FoundNothing options)

abbrev compare_job : CompareOptions → Job
compare_job options = jobs.Compare options.until options.seed options.events options.starts options.runs

module _ {S K E : Type 0} (source : S → Inlet) (sink : K → Outlet) (errors : E → Outlet) (words : List (List ℕ)) (i j : S) (o p : K) (e f : E) where
  found_is_such : (options : CompareOptions) → job_of words ≡ Some (compare_job options) → (end : End) (IsSuch : List ℕ → List ℕ → Type 0) → ComparesSuch options end IsSuch
      → ForJob words (λ reading. WritesAnswer source sink reading end i j o p) → IfSome (source i).left (λ text. (out : List ℕ) × IsSuch text out × GrowsBy (sink o).written (sink p).written out)
  found_is_such options asked end IsSuch law done =
      written_is_such source sink errors words i j o p e f (compare_job options) asked (readings.Pair (pairs.Compare options)) refl end IsSuch law done

  -- the answers mean what the laws say of the texts
  pub comparisons_kept : SameIsFound → DifferentIsFound → NothingIsFound → ((job : Job) → job_of words ≡ Some job → KeepsLimits (reading_of job))
      → (status : Status) → Ends source sink errors words i j o p e f status → ComparesModels (λ s. status ≡ s) words (source i) (sink o) (sink p)
  comparisons_kept same different nothing limits status h = record {
    same = λ options asked is. found_is_such options asked ends.Done FoundSame (same options) (ended statuses.Done is).0;
    differ = λ options asked is. found_is_such options asked ends.Differs (FoundApart options)
        (λ text bytes answers. different options text bytes (limits (compare_job options) asked) answers) (ended statuses.Differs is).0;
    unknown = λ options asked is. found_is_such options asked ends.Unknown (FoundNothing options) (nothing options) (ended statuses.Unknown is).0;
  }
    where
      ended : (s : Status) → status ≡ s → Ends source sink errors words i j o p e f s
      ended s is = subst (λ (x : Status). Ends source sink errors words i j o p e f x) is h
