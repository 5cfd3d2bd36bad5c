use Rattle.std.proofs.Common.{sym, ◌∙◌, ◌≡◌, subst, List, [], map}
use Rattle.model_core.specs.declared.model.Watch.{Watch}
use Rattle.model_core.specs.Run.History.{watched_values}
use Rattle.model_core.specs.Code.Views.{watched_of}
use Rattle.tally_report.specs.CellCourse.{cells_noted}
use Rattle.sig_expr.specs.WatchedValues.{values_watched}
use Rattle.tally_report.proofs.ValuesNoted.{noted-at, noted-beyond}
use Rattle.tally_report.proofs.sums.cells_at.Goals as goal

pub returns-in-Some : goal.returns-in-Some
returns-in-Some c =
    let found = c.in-Some.ensures.lookup in
    c.values_watched.ensures
    ∙ sym (subst (λ (ws : List Watch). cells_noted (map watched_of ws) (watched_values (map watched_of ws) c.args.state.now) c.args.place ≡ values_watched c.args.state.now (watched_of c.in-Some.watch.now)) c.as_slice.ensures
    (noted-at watched_of c.as_slice.result.now c.args.state.now c.args.place c.in-Some.watch.now found.3.0 found.1))

pub returns-in-None : goal.returns-in-None
returns-in-None c =
    let missed = c.in-None.ensures.lookup in
    sym (subst (λ (ws : List Watch). cells_noted (map watched_of ws) (watched_values (map watched_of ws) c.args.state.now) c.args.place ≡ []) c.as_slice.ensures
    (noted-beyond watched_of c.as_slice.result.now c.args.state.now c.args.place missed.3))
