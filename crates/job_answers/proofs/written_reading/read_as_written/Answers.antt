-- The complaint is the one of parsing or of the static check.
use Rattle.std.proofs.Common.{Err, ap}
use Rattle.std.proofs.lemmas.Result.{err_from_is_err_and}
use Rattle.model_lex.specs.PiecesOfText.{pieces_lexemes}
use Rattle.job_answers.specs.declared.reading_error.ReadingError.TheVariants.{At}
use Rattle.answer_delivery.specs.Complaints.{IsComplaint}
use Rattle.job_answers.specs.Inner.Refusals.{parsing_complaint}
use Rattle.job_answers.proofs.PassedOn.{same_error}
use Rattle.job_answers.proofs.ErrorComplaints.{parsing_complaint_is}
use Rattle.job_answers.proofs.written_reading.read_as_written.Goals as goal

pub returns-in_err-raw-clause-complaint : goal.returns-in_err-raw-clause-complaint
returns-in_err-raw-clause-complaint c = λ what at e.
    let pieces = c.args.pieces.now in
    let error = c.in_err-raw.field-0.0 in
    let p = err_from_is_err_and c.from_residual.result c.from_residual.ensures.1 in
    parsing_complaint_is (IsComplaint pieces.text.now) error
    (λ i is. let faults = c.in_err-raw.ensures.unexpected i (ap (λ x. Err x) is) in (pieces_lexemes pieces, pieces.are_its, faults.0, faults.1))
    (λ i is. (pieces_lexemes pieces, pieces.are_its, c.in_err-raw.ensures.too_deep i (ap (λ x. Err x) is)))
    what at (same_error c.from_residual.result p.0 (parsing_complaint error) (At what at) p.1 p.2 e)
