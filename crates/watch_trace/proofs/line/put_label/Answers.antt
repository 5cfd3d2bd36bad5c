use Rattle.watch_trace.specs.Inner.AddedLines.{two}
use Rattle.watch_trace.proofs.line.put_label.Goals as goal

pub returns : goal.returns
returns g c = two (two c.put_byte.ensures c.put_bytes.ensures) c.put_byte-2.ensures
