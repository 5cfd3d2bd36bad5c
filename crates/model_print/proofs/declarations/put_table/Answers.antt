-- the text is put piece by piece
use Rattle.model_print.proofs.Putting.{five}
use Rattle.model_print.proofs.declarations.put_table.Goals as goal

pub returns : goal.returns
returns g c = rw (← c.as_slice.ensures, ← c.as_slice-2.ensures) (five g.met.P.Pen.both c.put_bytes.ensures c.put_bytes-2.ensures c.put_bytes-3.ensures c.put_rows.ensures c.put_bytes-4.ensures)
