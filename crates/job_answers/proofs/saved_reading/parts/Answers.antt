-- The complaint is about the first part that isn't spelled.
use Rattle.std.proofs.Common.{Err, refl, ap, drop}
use Rattle.std.proofs.lemmas.Result.{err_from_is_err_and}
use Rattle.model_core.specs.Code.WrittenViews.{written_model}
use Rattle.model_lex.specs.PiecesOfText.{pieces_lexemes}
use Rattle.answer_delivery.specs.declared.complaint.Complaint.TheVariants as complaints
use Rattle.job_answers.specs.declared.reading_error.ReadingError.TheVariants.{At}
use Rattle.job_answers.specs.DocumentComplaints.{IsFrontComplaint}
use Rattle.job_answers.specs.SavedComplaints.{IsSavedComplaint, in_model, in_snapshot, of_saved_tokens}
use Rattle.job_answers.specs.Inner.Refusals.{parsing_complaint}
use Rattle.job_answers.proofs.PassedOn.{one_error, same_error}
use Rattle.job_answers.proofs.ErrorComplaints.{parsing_complaint_is, same_complaint}
use Rattle.job_answers.proofs.saved_reading.parts.Goals as goal

pub returns-in_err-model-clause-complaint : goal.returns-in_err-model-clause-complaint
returns-in_err-model-clause-complaint c = λ what at e.
    let pieces = c.args.pieces.now in
    let error = c.in_err-model.field-0.0 in
    let faults = c.in_err-model.ensures in
    let p = err_from_is_err_and c.from_residual.result c.from_residual.ensures.1 in
    of_saved_tokens (pieces_lexemes pieces) pieces.are_its
    (in_model
    (parsing_complaint_is (IsFrontComplaint pieces.text.now (pieces_lexemes pieces)) error (λ i is. faults.unexpected i (ap (λ x. Err x) is)) (λ i is. faults.too_deep i (ap (λ x. Err x) is))
    what at (same_error c.from_residual.result p.0 (parsing_complaint error) (At what at) p.1 p.2 e)))

pub returns-in-Some-clause-complaint : goal.returns-in-Some-clause-complaint
returns-in-Some-clause-complaint c = λ what at e.
    let pieces = c.args.pieces.now in
    let place = c.in-Some.at in
    same_complaint (IsSavedComplaint pieces.text.now) complaints.Unexpected what place at (one_error (At complaints.Unexpected place) (At what at) e)
    (of_saved_tokens (pieces_lexemes pieces) pieces.are_its
    (in_snapshot (written_model c.in_ok-model.model) (drop c.in_ok-model.behind (pieces_lexemes pieces)) (record { derived = c.in_ok-model.ensures.ok.0; few_openings = c.in_ok-model.ensures.ok.1 })
    refl (c.snapshot_fault_pieces.ensures.some place c.in-Some.is)))
