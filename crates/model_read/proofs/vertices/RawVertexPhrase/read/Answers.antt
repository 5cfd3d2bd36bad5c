-- The parts are read one after another.
use Rattle.model_core.specs.Text.Language.{vertex_format}
use Rattle.model_read.specs.Beginnings.{vertex_beginning}
use Rattle.model_read.proofs.vertices.RawVertexPhrase.read.Goals as goal

pub returns : goal.returns
unfolding vertex_format vertex_beginning
returns c = rw (c.in_ok-read_vertex_beginning.ensures, c.in_ok-changes.ensures, c.in_ok-edges.ensures, c.in_ok-symbol.ensures.reads, c.free.ensures, c.of-begun.ensures)
