-- The parts are read one after another.
use Rattle.model_read.specs.Beginnings.{model_beginning}
use Rattle.model_read.proofs.text.read_model_beginning.Goals as goal

pub returns-clause-reads : goal.returns-clause-reads
unfolding model_beginning
returns-clause-reads c = rw (c.in_ok-version.ensures, c.in_ok-model.ensures.reads, c.in_ok-name.ensures.reads, c.in_ok-symbol.ensures.reads, c.in_ok-vars.ensures, c.in_ok-tables.ensures, c.in_ok-watch.ensures, c.text_place.ensures, c.version_number.ensures)
