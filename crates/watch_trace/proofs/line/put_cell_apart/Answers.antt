use Rattle.std.proofs.Common.{w64}
use Rattle.std.proofs.lemmas.Int.{to_z-of_z}
use Rattle.watch_trace.specs.Inner.AddedLines.{two}
use Rattle.watch_trace.proofs.line.put_cell_apart.Goals as goal

pub returns : goal.returns
returns g c = two c.put_label.ensures (rw (to_z-of_z w64 c.args.value c.ranges.value) at c.put_signed.ensures)
