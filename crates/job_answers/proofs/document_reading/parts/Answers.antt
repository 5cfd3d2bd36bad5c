-- The complaint is about the first part that isn't spelled.
use Rattle.std.proofs.Common.{◌≡◌, ℕ, Err, refl, sym, ◌∙◌, ap, drop}
use Rattle.std.proofs.lemmas.Result.{err_from_is_err_and}
use Rattle.model_lex.specs.PiecesOfText.{pieces_lexemes}
use Rattle.model_core.specs.Code.WrittenViews.{written_model}
use Rattle.model_core.specs.Text.CertificateText.{IsNoCertificateAt}
use Rattle.answer_delivery.specs.declared.complaint.Complaint.{Complaint}
use Rattle.answer_delivery.specs.declared.complaint.Complaint.TheVariants as complaints
use Rattle.job_answers.specs.declared.reading_error.ReadingError.TheVariants.{At}
use Rattle.job_answers.specs.Inner.Refusals.{parsing_complaint}
use Rattle.job_answers.specs.DocumentComplaints.{IsFrontComplaint, in_first, in_second, in_certificate, of_tokens}
use Rattle.job_answers.proofs.PassedOn.{one_error, same_error}
use Rattle.job_answers.proofs.ErrorComplaints.{parsing_complaint_is}
use Rattle.job_answers.proofs.document_reading.parts.Goals as goal

pub returns-in_err-first-clause-complaint : goal.returns-in_err-first-clause-complaint
returns-in_err-first-clause-complaint c = λ what at e.
    let pieces = c.args.pieces.now in
    let error = c.in_err-first.field-0.0 in
    let faults = c.in_err-first.ensures in
    let p = err_from_is_err_and c.from_residual.result c.from_residual.ensures.1 in
    of_tokens (pieces_lexemes pieces) pieces.are_its
    (in_first
    (parsing_complaint_is (IsFrontComplaint pieces.text.now (pieces_lexemes pieces)) error (λ i is. faults.unexpected i (ap (λ x. Err x) is)) (λ i is. faults.too_deep i (ap (λ x. Err x) is))
    what at (same_error c.from_residual.result p.0 (parsing_complaint error) (At what at) p.1 p.2 e)))

pub returns-in-Err-clause-complaint : goal.returns-in-Err-clause-complaint
returns-in-Err-clause-complaint c = λ what at e.
    let pieces = c.args.pieces.now in
    let faults = c.in-Err.ensures in
    let left = drop c.in_ok-first.behind_first (pieces_lexemes pieces) in
    of_tokens (pieces_lexemes pieces) pieces.are_its
    (in_second (written_model c.in_ok-first.first) left (record { derived = c.in_ok-first.ensures.ok.0; few_openings = c.in_ok-first.ensures.ok.1 })
    (parsing_complaint_is (IsFrontComplaint pieces.text.now left) c.in-Err.error (λ i is. faults.unexpected i (ap (λ x. Err x) is)) (λ i is. faults.too_deep i (ap (λ x. Err x) is))
    what at (sym c.from.ensures ∙ one_error c.from.result (At what at) e)))

pub returns-in-Err-read_certificate_pieces-clause-complaint : goal.returns-in-Err-read_certificate_pieces-clause-complaint
returns-in-Err-read_certificate_pieces-clause-complaint c = λ what at e.
    let pieces = c.args.pieces.now in
    let faults = c.in-Err-read_certificate_pieces.ensures in
    let last = drop c.in-Ok.read.1 (pieces_lexemes pieces) in
    let wrong = parsing_complaint_is (λ (w : Complaint) (i : ℕ). (w ≡ complaints.Unexpected) × IsNoCertificateAt pieces.text.now last i) c.in-Err-read_certificate_pieces.error
    (λ i is. (refl, faults.unexpected i (ap (λ x. Err x) is))) (λ i is. absurd (faults.never_too_deep i (ap (λ x. Err x) is)))
    what at (sym c.from-in-Err-read_certificate_pieces.ensures ∙ one_error c.from-in-Err-read_certificate_pieces.result (At what at) e) in
    of_tokens (pieces_lexemes pieces) pieces.are_its
    (in_certificate (written_model c.in_ok-first.first) (written_model c.in-Ok.read.0) (drop c.in_ok-first.behind_first (pieces_lexemes pieces)) last
    (record { derived = c.in_ok-first.ensures.ok.0; few_openings = c.in_ok-first.ensures.ok.1 })
    (record { derived = c.in-Ok.ensures.ok.0; few_openings = c.in-Ok.ensures.ok.1 })
    wrong.0 wrong.1)
