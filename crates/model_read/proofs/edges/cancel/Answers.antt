-- The parts are read one after another.
use Rattle.model_core.specs.Text.Language.{cancel_format}
use Rattle.model_read.proofs.edges.cancel.Goals as goal

pub returns : goal.returns
unfolding cancel_format
returns c = rw (c.in_ok-at.ensures.reads, c.in_ok-cancelled.ensures, c.in_ok-condition.ensures, c.in_ok-symbol.ensures.reads, c.free-target.ensures, c.of-cancelled.ensures, c.free.ensures, c.of-condition.ensures)
