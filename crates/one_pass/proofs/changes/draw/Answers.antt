-- Of the target and the source.
use Rattle.std.proofs.Common.{sym}
use Rattle.model_core.specs.Code.Views.{location_of}
use Rattle.model_core.specs.Static.Meanings.{meaning_of}
use Rattle.one_pass.proofs.DrawsRead.{draw_read}
use Rattle.one_pass.proofs.changes.draw.Goals as goal

pub returns : goal.returns
returns c = λ is_two.
    rw (c.free.ensures, c.of-target.ensures)
    (draw_read (meaning_of c.args.names.now) is_two _ _ c.args.cursor.now c.word.new.self c.target.new.cursor c.source.new.cursor c.symbol.new.self (location_of c.in_ok-typed.typed.part) c.in_ok-typed.typed.kind _ _
    c.in_ok-word.ensures.reads c.in_ok-typed.ensures.reads (sym c.if-kinds_differ.ensures) c.in_ok-stream.ensures c.in_ok-symbol.ensures.reads)
