use Rattle.watch_trace.specs.Inner.AddedLines.{two}
use Rattle.watch_trace.proofs.written_notes.LineNoteTaker.take_on.Goals as goal

pub returns : goal.returns
returns g c = two c.put_on.ensures c.end.ensures.adds
