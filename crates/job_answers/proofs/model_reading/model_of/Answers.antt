-- The complaint is about what is wrong with the text.
use Rattle.std.proofs.Common.{subst}
use Rattle.model_lex.specs.PiecesOfText.{pieces_lexemes}
use Rattle.answer_delivery.specs.declared.complaint.Complaint.TheVariants as complaints
use Rattle.answer_delivery.specs.Complaints.{IsComplaint}
use Rattle.job_answers.specs.declared.reading_error.ReadingError.TheVariants.{At}
use Rattle.job_answers.proofs.PassedOn.{one_error}
use Rattle.job_answers.proofs.ErrorComplaints.{same_complaint}
use Rattle.job_answers.proofs.model_reading.model_of.Goals as goal

pub returns-in-Err-Unexpected-clause-complaint : goal.returns-in-Err-Unexpected-clause-complaint
returns-in-Err-Unexpected-clause-complaint c = λ what at e.
    let pieces = c.in_ok-pieces.pieces in
    let place = c.in-Err-Unexpected.at in
    let refused = rw c.in-Err-Unexpected.field-0-is at c.in-Err-Unexpected.ensures.refused in
    same_complaint (IsComplaint c.args.text.now) complaints.Unexpected what place at (one_error (At complaints.Unexpected place) (At what at) e)
    (subst (λ t. IsComplaint t complaints.Unexpected place) c.in_ok-pieces.ensures.ok.0 (pieces_lexemes pieces, pieces.are_its, refused.0, refused.1))

pub returns-in-Err-TooDeep-clause-complaint : goal.returns-in-Err-TooDeep-clause-complaint
returns-in-Err-TooDeep-clause-complaint c = λ what at e.
    let pieces = c.in_ok-pieces.pieces in
    let place = c.in-Err-TooDeep.at in
    let refused = rw c.in-Err-TooDeep.field-0-is at c.in-Err-TooDeep.ensures.refused in
    same_complaint (IsComplaint c.args.text.now) complaints.TooDeep what place at (one_error (At complaints.TooDeep place) (At what at) e)
    (subst (λ t. IsComplaint t complaints.TooDeep place) c.in_ok-pieces.ensures.ok.0 (pieces_lexemes pieces, pieces.are_its, refused))

pub returns-in-Err-Fault-clause-complaint : goal.returns-in-Err-Fault-clause-complaint
returns-in-Err-Fault-clause-complaint c = λ what at e.
    let pieces = c.in_ok-pieces.pieces in
    let kind = c.in-Err-Fault.kind in
    let place = c.in-Err-Fault.at in
    let found = rw c.in-Err-Fault.field-0-is at c.in-Err-Fault.ensures.refused in
    same_complaint (IsComplaint c.args.text.now) (complaints.Static kind) what place at (one_error (At (complaints.Static kind) place) (At what at) e)
    (subst (λ t. IsComplaint t (complaints.Static kind) place) c.in_ok-pieces.ensures.ok.0
    (found.written, record { tokens = pieces_lexemes pieces; cut = pieces.are_its; derived = found.spelled; few_openings = found.few_openings }, found.is_first))
