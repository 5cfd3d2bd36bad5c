-- as many moves led on as were counted
use Rattle.watch_trace.specs.Inner.MadeMoves.{MovesLead}
use Rattle.watch_trace.proofs.noted_moves.make_moves.Given as goal

abbrev pub invariant-loop : goal.invariant-loop
invariant-loop g l =
    MovesLead g.T.NoteTaker.takes l.until l.initial.run l.initial.last_notes l.counter l.run l.last_notes
    (l.initial.taker, l.initial.onto) (l.taker, l.onto)
