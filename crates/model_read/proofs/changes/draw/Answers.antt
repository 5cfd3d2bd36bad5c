-- The parts are read one after another.
use Rattle.model_read.specs.Inner.LineFormats.{draw_format}
use Rattle.model_read.proofs.changes.draw.Goals as goal

pub returns : goal.returns
unfolding draw_format
returns c = rw (c.in_ok-at.ensures.reads, c.in_ok-target.ensures, c.in_ok-stream.ensures, c.in_ok-symbol.ensures.reads)
