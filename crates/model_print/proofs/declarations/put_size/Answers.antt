-- the text is put piece by piece
use Rattle.model_print.proofs.WrittenOperators.{size_written}
use Rattle.model_print.proofs.Putting.{three}
use Rattle.model_print.proofs.declarations.put_size.Goals as goal

pub returns : goal.returns
returns g c = rw (size_written c.args.size c.if-size-eq0.false) (three g.met.P.Pen.both c.put_bytes.ensures c.put_number.ensures c.put_bytes-2.ensures)
