use Rattle.watch_trace.proofs.FollowedText.{outcome_writes}
use Rattle.watch_trace.proofs.whole_history.write_history.Goals as goal

pub returns-clause-writes : goal.returns-clause-writes
returns-clause-writes g c =
    let came = c.run_uncounted-outcome in
    outcome_writes g.K.Sink.seen c.args.until c.args.events c.args.run.now came.new.run c.args.tracer.now came.new.last_notes c.tracer.inside.last_notes came.result c.put_end_line.result c.clear.new.self came.new.taker c.put_end_line.new.line
    c.args.sink.now came.new.onto c.put_end_line.new.sink c.tracer.view_is c.clear.ensures came.ensures c.put_end_line.ensures.adds c.put_end_line.ensures.whole c.put_end_line.ensures.answers
