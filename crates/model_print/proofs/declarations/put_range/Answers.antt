-- the text is put piece by piece
use Rattle.std.proofs.Common.{rules}
use Rattle.model_print.proofs.Putting.{put_as, four}
use Rattle.model_print.proofs.declarations.put_range.Goals as goal

pub returns : goal.returns
returns g c = put_as g.met.P.Pen.both _ (search rules) (four g.met.P.Pen.both c.put_signed.ensures c.put_bytes.ensures c.put_signed-2.ensures c.put_clip.ensures)
