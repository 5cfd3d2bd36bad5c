-- the text is put piece by piece
use Rattle.model_print.proofs.Putting.{three}
use Rattle.model_print.proofs.model.put_model.Goals as goal

pub returns : goal.returns
returns g c = three g.met.P.Pen.both (rw c.needs_version_two.ensures at c.put_declarations.ensures) (rw c.as_slice.ensures at c.put_vertices.ensures) c.put_bytes.ensures
