use Rattle.std.proofs.Common.{append-nil}
use Rattle.watch_trace.specs.Inner.AddedLines.{two, added_as}
use Rattle.watch_trace.proofs.end_line.put_end_line.Goals as goal

pub returns-then-failed-clause-adds : goal.returns-then-failed-clause-adds
returns-then-failed-clause-adds g c = added_as _ (append-nil _) (two c.put_last.ensures c.end.ensures.adds)

pub returns-clause-adds : goal.returns-clause-adds
returns-clause-adds g c = added_as _ (append-nil _) (two c.put_last.ensures c.end.ensures.adds)
