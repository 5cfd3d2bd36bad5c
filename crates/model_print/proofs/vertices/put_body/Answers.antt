-- the text is put piece by piece
use Rattle.model_print.proofs.Putting.{two}
use Rattle.model_print.proofs.vertices.put_body.Goals as goal

pub returns : goal.returns
returns g c = rw (← c.as_slice.ensures, ← c.as_slice-2.ensures) (two g.met.P.Pen.both c.put_changes.ensures c.put_edges.ensures)
