-- the text is put piece by piece
use Rattle.std.proofs.Common.{rules}
use Rattle.model_print.proofs.Putting.{put_as, four}
use Rattle.model_print.proofs.declarations.put_row.Goals as goal

pub returns : goal.returns
returns g c = put_as g.met.P.Pen.both _ (search rules) (four g.met.P.Pen.both c.put_signed.ensures c.put_bytes.ensures c.put_number.ensures c.put_bytes-2.ensures)
