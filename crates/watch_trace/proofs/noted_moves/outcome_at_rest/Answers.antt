use Rattle.watch_trace.proofs.MoveOutcome.{rests_ended, rests_stopped}
use Rattle.watch_trace.proofs.noted_moves.outcome_at_rest.Goals as goal

pub returns-in-None-clause-last : goal.returns-in-None-clause-last
returns-in-None-clause-last g c =
    rests_ended g.T.NoteTaker.takes c.args.until c.args.run.now c.args.last_notes.now c.leave.new.last_notes _ _ c.requires.goes_on c.clock.result c.clock.ensures c.in-None.ensures c.leave.ensures.noted c.leave.ensures.taken

pub returns-else-first-until-clause-last : goal.returns-else-first-until-clause-last
returns-else-first-until-clause-last g c =
    rests_stopped g.T.NoteTaker.takes c.args.until c.args.run.now c.args.last_notes.now c.leave-in-Some.new.last_notes _ _ c.requires.goes_on c.in-Some.first c.in-Some.ensures c.if-first-until.false c.leave-in-Some.ensures.noted c.leave-in-Some.ensures.taken
