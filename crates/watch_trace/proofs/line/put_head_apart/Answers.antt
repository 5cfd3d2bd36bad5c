use Rattle.watch_trace.specs.Inner.AddedLines.{two}
use Rattle.watch_trace.proofs.line.put_head_apart.Goals as goal

pub returns : goal.returns
returns g c = two (two (two c.put_byte.ensures c.put_byte-2.ensures) c.put_byte-3.ensures) c.put_number.ensures
