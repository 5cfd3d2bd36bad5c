use Rattle.std.proofs.Common.{ap}
use Rattle.model_core.specs.Code.Views.{graph_of}
use Rattle.job_answers.proofs.commands.RunLaws.{run_delivered}
use Rattle.job_answers.proofs.StartLaws.{start_refused}
use Rattle.job_answers.proofs.commands.run.run.Goals as goal

pub returns-in-Err : goal.returns-in-Err
returns-in-Err g c =
    let options = c.args.options.now in
    start_refused g.K.Sink.seen (graph_of c.args.model.now) options.starts _ _ c.in-Err.error c.refuse_start.result c.args.output.now (λ line is. c.in-Err.ensures.err) c.refuse_start.ensures

-- the history, from the run's beginning on
pub returns-in-Ok-begin : goal.returns-in-Ok-begin
returns-in-Ok-begin g c =
    let options = c.args.options.now in
    run_delivered g.K.Sink.seen c.args.model.now options.until options.seed options.events options.room options.starts c.in-Ok.run' c.in-Ok-begin.tracer c.write_history_from.result c.args.output.now c.write_history_from.new.output c.in-Ok.ensures.ok
    (ap (λ t. t.noted) c.in-Ok-begin.ensures) c.write_history_from.ensures
