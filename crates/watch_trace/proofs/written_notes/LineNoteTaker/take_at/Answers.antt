use Rattle.watch_trace.specs.Inner.AddedLines.{two}
use Rattle.watch_trace.proofs.written_notes.LineNoteTaker.take_at.Goals as goal

pub returns : goal.returns
returns g c = two c.put_at.ensures c.end.ensures.adds
