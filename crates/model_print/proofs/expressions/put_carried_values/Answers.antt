-- the text is put piece by piece
use Rattle.std.proofs.Common.{arith}
use Rattle.std.proofs.lemmas.Grind.{common_steps}
use Rattle.model_print.proofs.Putting.{put_as, three}
use Rattle.model_print.proofs.expressions.put_carried_values.Goals as goal

pub returns : goal.returns
returns g c = put_as g.met.P.Pen.both _ (grind (arith, common_steps)) (three g.met.P.Pen.both c.put_bytes.ensures c.put_expressions.ensures c.put_bytes-2.ensures)
