-- the text is put piece by piece
use Rattle.std.proofs.Common.{rules}
use Rattle.model_print.proofs.Putting.{put_as, two}
use Rattle.model_print.proofs.vertices.put_delay.Goals as goal

pub returns-after-expr : goal.returns-after-expr
returns-after-expr g c = put_as g.met.P.Pen.both _ (search rules) (two g.met.P.Pen.both c.put_bytes.ensures c.put_expression.ensures)

pub returns-in-Drawn : goal.returns-in-Drawn
returns-in-Drawn g c = put_as g.met.P.Pen.both _ (search rules) (two g.met.P.Pen.both c.put_bytes-in-Drawn.ensures c.put_source.ensures)
