-- The parts are read one after another.
use Rattle.model_read.specs.Beginnings.{vertex_beginning}
use Rattle.model_read.proofs.vertices.read_vertex_beginning.Goals as goal

pub returns : goal.returns
unfolding vertex_beginning
returns c = rw (c.in_ok-at.ensures.reads, c.in_ok-name.ensures.reads, c.in_ok-params.ensures, c.in_ok-symbol.ensures.reads)
