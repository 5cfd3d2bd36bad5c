-- the text is put piece by piece
use Rattle.model_print.proofs.Putting.{seven}
use Rattle.model_print.proofs.model_without_edge.put_vertex_without.Goals as goal

pub returns : goal.returns
returns g c = rw (← c.as_slice.ensures, ← c.as_slice-2.ensures, ← c.as_slice-3.ensures, ← c.as_slice-4.ensures) (seven g.met.P.Pen.both c.put_bytes.ensures c.put_bytes-2.ensures c.put_parameters.ensures c.put_bytes-3.ensures c.put_changes.ensures c.put_edges_but.ensures c.put_bytes-4.ensures)
