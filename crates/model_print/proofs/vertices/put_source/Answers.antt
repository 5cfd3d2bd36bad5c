-- the text is put piece by piece
use Rattle.std.proofs.Common.{rules}
use Rattle.model_print.proofs.Putting.{put_as, three}
use Rattle.model_print.proofs.vertices.put_source.Goals as goal

pub returns : goal.returns
returns g c = put_as g.met.P.Pen.both _ (search rules) (three g.met.P.Pen.both c.put_bytes.ensures c.put_number.ensures c.put_choice.ensures)
