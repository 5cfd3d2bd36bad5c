use Rattle.std.proofs.Common.{sym}
use Rattle.watch_trace.proofs.MoveOutcome.{ended, stopped, broke, went, lacked}
use Rattle.watch_trace.proofs.noted_moves.make_move.Goals as goal

pub returns-in-Err-clause-moves : goal.returns-in-Err-clause-moves
returns-in-Err-clause-moves g c =
    let e = c.in-Err.ensures in
    lacked g.T.NoteTaker.takes c.args.until c.args.run.now c.args.last_notes.now c.advance.new.run c.advance.new.last_notes _ _ e.run_unchanged e.err e.enough e.due

pub returns-in-Ok-Ended-clause-moves : goal.returns-in-Ok-Ended-clause-moves
returns-in-Ok-Ended-clause-moves g c =
    let e = c.in-Ok-Ended.ensures in
    ended g.T.NoteTaker.takes c.args.until c.args.run.now c.args.last_notes.now c.advance.new.run c.advance.new.last_notes _ _ c.in-Ok-Ended.field-0 e.noted e.turn e.ok c.in-Ok-Ended.time c.in-Ok-Ended.field-0-is

pub returns-in-Ok-Stopped-clause-moves : goal.returns-in-Ok-Stopped-clause-moves
returns-in-Ok-Stopped-clause-moves g c =
    let e = c.in-Ok-Stopped.ensures in
    stopped g.T.NoteTaker.takes c.args.until c.args.run.now c.args.last_notes.now c.advance.new.run c.advance.new.last_notes _ _ c.in-Ok-Stopped.field-0 e.noted e.turn e.ok c.in-Ok-Stopped.field-0-is

pub returns-in-Ok-Faulted-clause-moves : goal.returns-in-Ok-Faulted-clause-moves
returns-in-Ok-Faulted-clause-moves g c =
    let e = c.in-Ok-Faulted.ensures in
    broke g.T.NoteTaker.takes c.args.until c.args.run.now c.args.last_notes.now c.advance.new.run c.advance.new.last_notes _ _ c.in-Ok-Faulted.field-0 e.noted e.turn e.ok c.in-Ok-Faulted.time c.in-Ok-Faulted.kind c.in-Ok-Faulted.field-0-is

pub returns-then-has_failed-clause-moves : goal.returns-then-has_failed-clause-moves
returns-then-has_failed-clause-moves g c =
    let e = c.in-Ok-Ran.ensures in (
      went g.T.NoteTaker.takes c.args.until c.args.run.now c.args.last_notes.now c.advance.new.run c.advance.new.last_notes _ _ c.in-Ok-Ran.field-0 e.noted e.turn e.ok c.in-Ok-Ran.field-0-0 c.in-Ok-Ran.field-0-1 c.in-Ok-Ran.field-0-is,
      sym c.if-has_failed.ensures,
    )

pub returns-else-has_failed-clause-moves : goal.returns-else-has_failed-clause-moves
returns-else-has_failed-clause-moves g c =
    let e = c.in-Ok-Ran.ensures in
    went g.T.NoteTaker.takes c.args.until c.args.run.now c.args.last_notes.now c.advance.new.run c.advance.new.last_notes _ _ c.in-Ok-Ran.field-0 e.noted e.turn e.ok c.in-Ok-Ran.field-0-0 c.in-Ok-Ran.field-0-1 c.in-Ok-Ran.field-0-is
