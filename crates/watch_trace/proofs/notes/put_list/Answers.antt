use Rattle.watch_trace.specs.Inner.AddedLines.{two}
use Rattle.watch_trace.proofs.notes.put_list.Goals as goal

pub returns : goal.returns
returns g c = two c.put_label.ensures c.put_values.ensures
