-- What holds of the answers of each job to what it reads, in one record a job.
use Rattle.std.specs.Prelude.{◌≡◌, ◌<◌, ◌⊎◌, ℕ, List, length}
use Rattle.command_words.specs.declared.reading.Reading.{Reading}
use Rattle.command_words.specs.declared.reading.Reading.TheVariants as readings
use Rattle.command_words.specs.KeptLimits.{KeepsLimits}
use Rattle.model_core.specs.EventGraph.{EventGraph}
use Rattle.model_core.specs.Static.Reading.{IsValid}
use Rattle.model_core.specs.Rules.Reduction.{RuleApplication}
use Rattle.model_core.specs.Saved.SavedRun.{SavedRun}
use Rattle.answer_delivery.specs.declared.answer.Answer.{Answer}
use Rattle.answer_delivery.specs.declared.answer.Answer.TheVariants.{Given}
use Rattle.answer_delivery.specs.declared.status.End.{End}
use Rattle.answer_delivery.specs.declared.status.Status.TheVariants as statuses
use Rattle.job_answers.specs.Answers.{AnswersModel, AnswersDocument, AnswersPair, AnswersSaved, AnswersAlone, HasNothingToWrite}
use Rattle.answer_delivery.specs.Statuses.{status_of_answer}

-- Of what may be read there is an answer, and it is the only one. What is given has bytes, unless it may have none, and an
-- answer to what was read is no refusal of a text.
pub record HasOneAnswer {M : Type 0} (MayBeRead : M → Type 0) (Gives : M → Answer → Type 0) (MayBeNone : List ℕ → Type 0) : Type 0 where
  pub exists : (m : M) → MayBeRead m → (a : Answer) × Gives m a
  pub one : (m : M) (a b : Answer) → Gives m a → Gives m b → a ≡ b
  pub has_bytes : (m : M) (end : End) (bytes : List ℕ) → Gives m (Given end bytes) → MayBeNone bytes ⊎ (0 < length bytes)
  pub unrefused : (m : M) (a : Answer) → Gives m a → status_of_answer a ≡ statuses.Refused → ⊥

-- the two models of a document, and the applications between them
abbrev pub DocumentParts : Type 0
DocumentParts = EventGraph × List RuleApplication × EventGraph

-- the two models of a document of two texts
abbrev pub PairParts : Type 0
PairParts = EventGraph × EventGraph

-- the model of a saved document, and the run that was saved
abbrev pub SavedParts : Type 0
SavedParts = EventGraph × SavedRun

-- a job has an answer: of one that reads nothing, if its options keep their limits
abbrev pub MayBeAsked : Reading → Type 0
MayBeAsked (readings.Nothing job) = KeepsLimits (readings.Nothing job)
MayBeAsked reading = Unit {0}

-- the laws of the answers of a job, by what it reads
abbrev pub KeepsAnswerLaws : Reading → Type 0
KeepsAnswerLaws (readings.Model job) = HasOneAnswer IsValid (AnswersModel job) (HasNothingToWrite (readings.Model job))
KeepsAnswerLaws (readings.Document job) =
    HasOneAnswer {M = DocumentParts} (λ d. Unit {0}) (λ d. AnswersDocument job d.0 d.1 d.2) (HasNothingToWrite (readings.Document job))
KeepsAnswerLaws (readings.Pair job) = HasOneAnswer {M = PairParts} (λ d. IsValid d.0 × IsValid d.1) (λ d. AnswersPair job d.0 d.1) (HasNothingToWrite (readings.Pair job))
KeepsAnswerLaws (readings.Saved job) = HasOneAnswer {M = SavedParts} (λ d. Unit {0}) (λ d. AnswersSaved job d.0 d.1) (HasNothingToWrite (readings.Saved job))
KeepsAnswerLaws (readings.Nothing job) = HasOneAnswer {M = Unit {0}} (λ u. MayBeAsked (readings.Nothing job)) (λ u. AnswersAlone job) (HasNothingToWrite (readings.Nothing job))
