-- The parts are read one after another.
use Rattle.model_core.specs.Text.Language.{variable_format}
use Rattle.model_read.proofs.declarations.RawVarPhrase.read.Goals as goal

pub returns : goal.returns
unfolding variable_format
returns c = rw (c.in_ok-at.ensures.reads, c.in_ok-name.ensures.reads, c.in_ok-size.ensures, c.in_ok-symbol.ensures.reads, c.in_ok-kind.ensures, c.in_ok-symbol-2.ensures.reads, c.in_ok-initial.ensures, c.in_ok-symbol-3.ensures.reads)
