-- the text is put piece by piece
use Rattle.std.proofs.Common.{rules}
use Rattle.model_print.proofs.Putting.{put_as, two, four}
use Rattle.model_print.proofs.vertices.put_choice.Goals as goal

pub returns-in-Uniform : goal.returns-in-Uniform
returns-in-Uniform g c = rw c.in-Uniform.is (put_as g.met.P.Pen.both _ (search rules) (four g.met.P.Pen.both c.put_bytes.ensures c.put_signed.ensures c.put_bytes-in-Uniform.ensures c.put_signed-in-Uniform.ensures))

pub returns-in-ByTable : goal.returns-in-ByTable
returns-in-ByTable g c = rw c.in-ByTable.is (two g.met.P.Pen.both c.put_bytes-in-ByTable.ensures c.put_table_name.ensures)
