-- The parts are read one after another.
use Rattle.model_core.specs.Text.Language.{schedule_format}
use Rattle.model_read.proofs.edges.schedule.Goals as goal

pub returns : goal.returns
unfolding schedule_format
returns c = rw (c.in_ok-at.ensures.reads, c.in_ok-target.ensures.reads, c.in_ok-values.ensures, c.in_ok-form.ensures, c.in_ok-condition.ensures, c.in_ok-symbol.ensures.reads, c.free.ensures, c.of-values.ensures, c.free-2.ensures, c.of-condition.ensures)
