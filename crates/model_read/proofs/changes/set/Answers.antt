-- The parts are read one after another.
use Rattle.model_read.specs.Inner.LineFormats.{set_format}
use Rattle.model_read.proofs.changes.set.Goals as goal

pub returns : goal.returns
unfolding set_format
returns c = rw (c.in_ok-at.ensures.reads, c.in_ok-targets.ensures, c.in_ok-symbol.ensures.reads, c.in_ok-values.ensures, c.in_ok-symbol-2.ensures.reads)
