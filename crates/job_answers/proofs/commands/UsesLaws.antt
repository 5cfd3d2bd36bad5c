-- The laws of the answer of `uses`. It may have no bytes.
use Rattle.command_words.specs.declared.reading.ModelJob.TheVariants.{Uses}
use Rattle.command_words.specs.declared.reading.Reading.TheVariants.{Model}
use Rattle.model_core.specs.Static.Reading.{IsValid}
use Rattle.use_analysis.specs.UsesText.{uses_text}
use Rattle.job_answers.specs.AnswerLaws.{KeepsAnswerLaws}
use Rattle.job_answers.specs.Answers.{HasNothingToWrite}
use Rattle.job_answers.proofs.GivenAnswers.{none_or_some, done_answer}

pub uses_laws : KeepsAnswerLaws (Model Uses)
uses_laws = done_answer IsValid (HasNothingToWrite (Model Uses)) uses_text (λ g. none_or_some (uses_text g))
