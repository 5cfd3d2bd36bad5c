-- The laws of the answer of `conflicts`. It may have no bytes.
use Rattle.command_words.specs.declared.reading.ModelJob.TheVariants.{Conflicts}
use Rattle.command_words.specs.declared.reading.Reading.TheVariants.{Model}
use Rattle.model_core.specs.Static.Reading.{IsValid}
use Rattle.conflict_report.specs.ConflictText.{conflict_text}
use Rattle.job_answers.specs.AnswerLaws.{KeepsAnswerLaws}
use Rattle.job_answers.specs.Answers.{HasNothingToWrite}
use Rattle.job_answers.proofs.GivenAnswers.{none_or_some, done_answer}

pub conflicts_laws : KeepsAnswerLaws (Model Conflicts)
conflicts_laws = done_answer IsValid (HasNothingToWrite (Model Conflicts)) conflict_text (λ g. none_or_some (conflict_text g))
