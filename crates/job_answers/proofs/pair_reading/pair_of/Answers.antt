-- The complaint: first about the spelling, then about the first model, and then about the second.
use Rattle.std.proofs.Common.{Err, refl, sym, ◌∙◌, ap}
use Rattle.std.proofs.lemmas.Result.{err_from_is_err_and}
use Rattle.model_core.specs.Code.Views.{graph_of}
use Rattle.job_answers.specs.declared.reading_error.ReadingError.TheVariants.{At}
use Rattle.job_answers.specs.PairComplaints.{IsPairComplaint, of_first_model, of_second_model}
use Rattle.job_answers.proofs.PassedOn.{one_error, passed_on}
use Rattle.job_answers.proofs.ErrorComplaints.{static_complaint_is}
use Rattle.job_answers.proofs.pair_reading.pair_of.Goals as goal

pub returns-in_err-first-clause-complaint : goal.returns-in_err-first-clause-complaint
returns-in_err-first-clause-complaint c = λ what at e.
    let p = err_from_is_err_and c.from_residual.result c.from_residual.ensures.1 in
    c.in_err-first.ensures.complaint what at (passed_on c.from_residual.result p.0 c.in_err-first.field-0.0 (At what at) p.1 p.2 e)

pub returns-in-Err-clause-complaint : goal.returns-in-Err-clause-complaint
returns-in-Err-clause-complaint c = λ what at e.
    static_complaint_is (IsPairComplaint c.args.text.now) c.in-Err.error
    (λ kind i is. of_first_model _ _ c.in_ok-first.ensures.ok kind refl (c.in-Err.ensures.refused kind i (ap (λ x. Err x) is)))
    what at (sym c.from.ensures ∙ one_error c.from.result (At what at) e)

pub returns-in-Err-check-clause-complaint : goal.returns-in-Err-check-clause-complaint
returns-in-Err-check-clause-complaint c = λ what at e.
    static_complaint_is (IsPairComplaint c.args.text.now) c.in-Err-check.error
    (λ kind i is. of_second_model _ _ c.in_ok-first.ensures.ok (graph_of c.in-Ok.original) c.in-Ok.ensures.accepted kind refl (c.in-Err-check.ensures.refused kind i (ap (λ x. Err x) is)))
    what at (sym c.from-in-Err-check.ensures ∙ one_error c.from-in-Err-check.result (At what at) e)
