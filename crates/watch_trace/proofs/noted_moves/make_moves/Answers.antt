use Rattle.watch_trace.proofs.FollowedMoves.{none_led, made_by_move, more_moves_lead}
use Rattle.watch_trace.proofs.noted_moves.make_moves.Goals as goal

pub loop-init : goal.loop-init
loop-init g c = none_led g.T.NoteTaker.takes (λ p. g.T.NoteTaker.failed p.0) g.met.T.NoteTaker.nothing g.met.T.NoteTaker.both c.args.until c.args.run.now c.args.last_notes.now _ c.requires.can.goes_on

pub returns-then-is_some : goal.returns-then-is_some
returns-then-is_some g c =
    let move = c.make_move-outcome in
    made_by_move g.T.NoteTaker.takes (λ p. g.T.NoteTaker.failed p.0) g.met.T.NoteTaker.nothing g.met.T.NoteTaker.both
    c.args.until c.args.events c.args.run.now c.args.last_notes.now c.loop.counter c.loop.run c.loop.last_notes _ _ c.loop.invariant c.loop-test.true
    move.result move.new.run move.new.last_notes _ c.if-is_some.ensures move.ensures.moves move.ensures.keeps move.ensures.traced

pub loop-preserved : goal.loop-preserved
loop-preserved g c =
    let move = c.make_move-outcome in
    more_moves_lead g.T.NoteTaker.takes (λ p. g.T.NoteTaker.failed p.0) g.met.T.NoteTaker.nothing g.met.T.NoteTaker.both
    c.args.until c.args.run.now c.args.last_notes.now c.loop.counter c.loop.run c.loop.last_notes _ _ c.loop.invariant
    move.result move.new.run move.new.last_notes _ c.if-is_some.ensures move.ensures.moves move.ensures.keeps move.ensures.traced
