use Rattle.model_core.specs.Code.WrittenViews.{written_number, written_target, written_choice}
use Rattle.model_core.specs.Static.Meanings.{meaning_of}
use Rattle.sig_types.proofs.ChangeParts.{draw_checked}
use Rattle.sig_types.proofs.changes.draw.Goals as goal

pub returns : goal.returns
returns c =
    draw_checked (meaning_of c.args.names.now) _ c.target.new.fault c.note.new.self _ 0 (written_target c.args.raw.now) (written_number c.args.stream.now) (written_choice c.args.from.now) _ _ _
    c.in_ok-drawn.ensures.checked (rw (← c.in_ok-drawn.ensures.kind, ← c.kinds_differ-differs.ensures) c.note.ensures) c.source-stream.ensures
