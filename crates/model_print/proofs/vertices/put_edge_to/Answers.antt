-- the text is put piece by piece
use Rattle.model_print.proofs.Putting.{six}
use Rattle.model_print.proofs.vertices.put_edge_to.Goals as goal

pub returns : goal.returns
returns g c = rw (← c.as_slice.ensures) (six g.met.P.Pen.both c.put_edge_word.ensures c.put_vertex_name.ensures c.put_carried_values.ensures c.put_timing.ensures c.put_condition.ensures c.put_bytes.ensures)
