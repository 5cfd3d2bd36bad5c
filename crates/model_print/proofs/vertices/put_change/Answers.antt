-- the text is put piece by piece
use Rattle.std.proofs.Common.{rules}
use Rattle.model_print.proofs.Putting.{put_as, four, five}
use Rattle.model_print.proofs.vertices.put_change.Goals as goal

pub returns-in-Set : goal.returns-in-Set
returns-in-Set g c = put_as g.met.P.Pen.both _ (search rules) (five g.met.P.Pen.both c.put_bytes.ensures c.put_targets.ensures c.put_bytes-in-Set.ensures c.put_expressions.ensures c.put_bytes-in-Set-2.ensures)

pub returns-in-Draw : goal.returns-in-Draw
returns-in-Draw g c = put_as g.met.P.Pen.both _ (search rules) (four g.met.P.Pen.both c.put_bytes-in-Draw.ensures c.put_target.ensures c.put_source.ensures c.put_bytes-in-Draw-2.ensures)
