-- the text is put piece by piece
use Rattle.model_print.proofs.Putting.{six}
use Rattle.model_print.proofs.declarations.put_variable.Goals as goal

pub returns : goal.returns
returns g c = rw (← c.as_slice.ensures) (six g.met.P.Pen.both c.put_bytes.ensures c.put_bytes-2.ensures c.put_size.ensures c.put_bytes-3.ensures c.put_kind.ensures c.put_bytes-4.ensures)
