-- The complaint: first about the spelling, then about the model, and then about the first part of the snapshot that isn't good.
use Rattle.std.proofs.Common.{Err, refl, sym, ◌∙◌, ap, drop}
use Rattle.std.proofs.lemmas.Result.{err_from_is_err_and}
use Rattle.model_core.specs.Code.Views.{graph_of}
use Rattle.model_core.specs.Code.WrittenViews.{written_model}
use Rattle.model_lex.specs.PiecesOfText.{pieces_lexemes}
use Rattle.answer_delivery.specs.declared.complaint.Complaint.TheVariants as complaints
use Rattle.job_answers.specs.declared.reading_error.ReadingError.TheVariants.{At}
use Rattle.job_answers.specs.SavedComplaints.{IsSavedComplaint, of_model, of_snapshot}
use Rattle.job_answers.proofs.PassedOn.{one_error, passed_on}
use Rattle.job_answers.proofs.SavedModels.{parameters_within_maximum}
use Rattle.job_answers.proofs.ErrorComplaints.{static_complaint_is, same_complaint}
use Rattle.job_answers.proofs.saved_reading.saved_in.Goals as goal

pub read_snapshot_pieces-requires-clause-parameters_fit : goal.read_snapshot_pieces-requires-clause-parameters_fit
read_snapshot_pieces-requires-clause-parameters_fit c = parameters_within_maximum (written_model c.in_ok-raw.raw) (graph_of c.in-Ok.model) c.in-Ok.ensures.accepted

pub returns-in_err-raw-clause-complaint : goal.returns-in_err-raw-clause-complaint
returns-in_err-raw-clause-complaint c = λ what at e.
    let p = err_from_is_err_and c.from_residual.result c.from_residual.ensures.1 in
    c.in_err-raw.ensures.complaint what at (passed_on c.from_residual.result p.0 c.in_err-raw.field-0.0 (At what at) p.1 p.2 e)

pub returns-in-Err-clause-complaint : goal.returns-in-Err-clause-complaint
returns-in-Err-clause-complaint c = λ what at e.
    let pieces = c.args.pieces.now in
    let snapshot = c.in_ok-raw.ensures.ends in
    static_complaint_is (IsSavedComplaint pieces.text.now) c.in-Err.error
    (λ kind i is. of_model (written_model c.in_ok-raw.raw) snapshot.0 (record { tokens = pieces_lexemes pieces; cut = pieces.are_its; after = drop c.in_ok-raw.behind (pieces_lexemes pieces); begins = c.in_ok-raw.ensures.begins; ends = snapshot.1 }) kind refl
    (c.in-Err.ensures.refused kind i (ap (λ x. Err x) is)))
    what at (sym c.from.ensures ∙ one_error c.from.result (At what at) e)

pub returns-in-Ok-read_snapshot_pieces-clause-ok : goal.returns-in-Ok-read_snapshot_pieces-clause-ok
returns-in-Ok-read_snapshot_pieces-clause-ok c =
    let pieces = c.args.pieces.now in
    let snapshot = c.in_ok-raw.ensures.ends in
    let good = c.in-Ok-read_snapshot_pieces.ensures.good snapshot.0 snapshot.1 in
    record {
      fits = c.requires;
      model = written_model c.in_ok-raw.raw;
      snapshot = snapshot.0;
      spells = record { tokens = pieces_lexemes pieces; cut = pieces.are_its; after = drop c.in_ok-raw.behind (pieces_lexemes pieces); begins = c.in_ok-raw.ensures.begins; ends = snapshot.1 };
      accepted = c.in-Ok.ensures.accepted;
      good = good.0;
      means = sym good.1;
    }

pub returns-in-Err-Bad-clause-complaint : goal.returns-in-Err-Bad-clause-complaint
returns-in-Err-Bad-clause-complaint c = λ what at e.
    let pieces = c.args.pieces.now in
    let place = c.in-Err-Bad.at in
    let snapshot = c.in_ok-raw.ensures.ends in
    same_complaint (IsSavedComplaint pieces.text.now) complaints.BadSnapshot what place at (one_error (At complaints.BadSnapshot place) (At what at) e)
    (of_snapshot (written_model c.in_ok-raw.raw) snapshot.0 (record { tokens = pieces_lexemes pieces; cut = pieces.are_its; after = drop c.in_ok-raw.behind (pieces_lexemes pieces); begins = c.in_ok-raw.ensures.begins; ends = snapshot.1 })
    (graph_of c.in-Ok.model) c.in-Ok.ensures.accepted refl (c.read_snapshot_pieces.ensures.bad place (c.in-Err-Bad.is ∙ ap (λ x. Err x) c.in-Err-Bad.field-0-is) snapshot.0 snapshot.1))
