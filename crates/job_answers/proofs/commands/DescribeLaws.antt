-- The laws of the answer of `describe`.
use Rattle.std.proofs.Common.{inr, arith}
use Rattle.command_words.specs.declared.reading.ModelJob.TheVariants.{Describe}
use Rattle.command_words.specs.declared.reading.Reading.TheVariants.{Model}
use Rattle.model_core.specs.Static.Reading.{IsValid}
use Rattle.describe.specs.Description.{description}
use Rattle.job_answers.specs.AnswerLaws.{KeepsAnswerLaws}
use Rattle.job_answers.specs.Answers.{HasNothingToWrite}
use Rattle.job_answers.proofs.GivenAnswers.{done_answer}

pub describe_laws : KeepsAnswerLaws (Model Describe)
describe_laws = done_answer IsValid (HasNothingToWrite (Model Describe)) description (λ g. inr (omega arith))
