use Rattle.watch_trace.proofs.Due.{turn_notes}
use Rattle.watch_trace.proofs.noted_moves.advance.Goals as goal

pub returns-clause-ok : goal.returns-clause-ok
returns-clause-ok g c = turn_notes g.T.NoteTaker.takes g.met.T.NoteTaker.both _ _ _ _ _ c.go_on.ensures.keeps.model c.leave.ensures.taken c.complete.ensures
