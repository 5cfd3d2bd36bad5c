use Rattle.std.proofs.Common.{ℕ, ap, sym, subst}
use Rattle.model_core.specs.Code.Views.{graph_of}
use Rattle.trial_report.specs.Inner.RunMeasures.{IsMeasureOf}
use Rattle.trial_report.proofs.MeasuredRuns.{run_measured}
use Rattle.trial_report.proofs.run_measure.follow.Goals as goal

pub returns : goal.returns
returns c =
    let followed = c.observe-outcome in
    let shows = followed.ensures.takes in
    subst (λ (n : ℕ). IsMeasureOf (graph_of c.args.model.now) c.args.run.now.seed c.args.until c.args.events (record { outcome = followed.result; events = n; notes = followed.new.taker.notes })) (sym c.turns.ensures)
    (run_measured c.args.model.now 4096 c.args.until c.args.events c.args.run.now followed.new.run c.in_ok-tracer.tracer followed.new.tracer followed.result followed.new.taker.notes shows.notes shows.rest
    c.requires.begun (ap (λ t. t.noted) c.in_ok-tracer.ensures) c.requires.budget c.in_default.not-WriteFault c.in_default.not-NoMemory
    shows.splits shows.completes shows.taken followed.ensures.leads followed.ensures.keeps)
