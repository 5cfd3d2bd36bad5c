use Rattle.std.proofs.Common.{sym, ◌∙◌}
use Rattle.model_core.specs.Code.Views.{graph_of}
use Rattle.watch_trace.specs.Tracing.{moment_of}
use Rattle.job_answers.proofs.HistoryLaws.{streamed_from, history_failed, history_closed}
use Rattle.job_answers.proofs.history_writing.write_history_from.Goals as goal

-- what was written is the history, and the output is closed
pub returns-in-Ok : goal.returns-in-Ok
returns-in-Ok g c = λ room roomy.
    let followed = c.write_history-outcome in
    let written = streamed_from g.K.Sink.seen c.args.until c.args.events room c.args.run followed.new.run c.args.tracer followed.new.tracer followed.result c.args.output.now followed.new.sink roomy followed.ensures.writes followed.ensures.leads
    _ (sym c.in-Ok.is ∙ c.ending.ensures) in
    history_closed g.K.Sink.seen (graph_of c.args.run.model) c.args.until c.args.run.seed c.args.events (moment_of c.args.run c.args.tracer) room c.in-Ok.end c.close.result c.args.output.now followed.new.sink c.close.new.output written c.close.ensures

-- it could not be written
pub returns-in-Err : goal.returns-in-Err
returns-in-Err g c = λ room roomy.
    let followed = c.write_history-outcome in
    let written = streamed_from g.K.Sink.seen c.args.until c.args.events room c.args.run followed.new.run c.args.tracer followed.new.tracer followed.result c.args.output.now followed.new.sink roomy followed.ensures.writes followed.ensures.leads
    _ (sym c.in-Err.is ∙ c.ending.ensures) in
    history_failed g.K.Sink.seen (graph_of c.args.run.model) c.args.until c.args.run.seed c.args.events (moment_of c.args.run c.args.tracer) room c.in-Err.failure c.args.output.now followed.new.sink written
