-- The parts are read one after another.
use Rattle.model_core.specs.Text.Language.{text_format}
use Rattle.model_read.specs.Beginnings.{model_beginning}
use Rattle.model_read.proofs.text.model.Goals as goal

pub returns : goal.returns
unfolding text_format model_beginning
returns c = rw (c.in_ok-read_model_beginning.ensures.reads, c.in_ok-vertices.ensures, c.in_ok-end_at.ensures.reads, c.free.ensures, c.of-begun.ensures)
