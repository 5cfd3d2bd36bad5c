-- the text is put piece by piece
use Rattle.model_print.proofs.Putting.{seven}
use Rattle.model_print.proofs.model.put_declarations.Goals as goal

pub returns : goal.returns
returns g c =
    seven g.met.P.Pen.both c.put_version_line.ensures c.put_bytes.ensures (rw c.as_slice.ensures at c.put_bytes-2.ensures) c.put_bytes-3.ensures (rw c.as_slice-2.ensures at c.put_variables.ensures) (rw c.as_slice-3.ensures at c.put_tables.ensures) (rw c.as_slice-4.ensures at c.put_watch.ensures)
