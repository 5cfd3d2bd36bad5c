use Rattle.watch_trace.proofs.FollowedMoves.{outcome_at_rest}
use Rattle.watch_trace.proofs.noted_moves.run_to_outcome.Goals as goal

pub returns-in-None : goal.returns-in-None
returns-in-None g c =
    outcome_at_rest g.T.NoteTaker.takes (λ p. g.T.NoteTaker.failed p.0) g.met.T.NoteTaker.nothing g.met.T.NoteTaker.both
    c.args.until c.args.events c.args.run.now c.args.last_notes.now c.make_moves.new.run c.make_moves.new.last_notes _ _ c.in-None.ensures
    c.outcome_at_rest.result c.outcome_at_rest.new.last_notes _ c.outcome_at_rest.ensures.last c.outcome_at_rest.ensures.traced
