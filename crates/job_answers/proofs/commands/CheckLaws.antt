-- The laws of the answer of `check`.
use Rattle.std.proofs.Common.{inr, ◌<◌, length, arith}
use Rattle.std.specs.Prelude.{codes}
use Rattle.command_words.specs.declared.reading.ModelJob.TheVariants.{Check}
use Rattle.command_words.specs.declared.reading.Reading.TheVariants.{Model}
use Rattle.job_answers.specs.AnswerLaws.{KeepsAnswerLaws}
use Rattle.job_answers.specs.Answers.{accepted_line, HasNothingToWrite}
use Rattle.job_answers.proofs.ModelTerms.{EventGraph, IsValid}
use Rattle.job_answers.proofs.GivenAnswers.{begins_with, done_answer}

has_bytes : (g : EventGraph) → 0 < length (accepted_line g)
has_bytes g = begins_with (codes "accepted ") g.name (codes "\n") (omega arith)

pub check_laws : KeepsAnswerLaws (Model Check)
check_laws = done_answer IsValid (HasNothingToWrite (Model Check)) accepted_line (λ g. inr (has_bytes g))
