use Rattle.std.proofs.Common.{◌≡◌, sym, subst}
use Rattle.answer_delivery.specs.AnswerForms.{refused}
use Rattle.answer_delivery.specs.Complaints.{message_of, byte_line}
use Rattle.job_answers.specs.declared.reading_error.ReadingError.{ReadingError}
use Rattle.job_answers.specs.Inner.Refusals.{Complains}
use Rattle.job_answers.proofs.Streaming.{delivered}
use Rattle.job_answers.proofs.answering.complain.Goals as goal

pub returns-in-At : goal.returns-in-At
returns-in-At g c =
    subst (λ (e : ReadingError). Complains g.K.Sink.seen e c.deliver.result c.args.output.now c.deliver.new.output) (sym c.in-At.is)
    (delivered g.K.Sink.seen (λ a. a ≡ refused (byte_line c.in-At.at (message_of c.in-At.what))) ⊥ c.args.output.now c.deliver.new.output c.complaint_answer.result c.deliver.result c.complaint_answer.ensures c.deliver.ensures)
