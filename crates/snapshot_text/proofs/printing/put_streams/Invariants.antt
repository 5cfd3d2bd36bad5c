use Rattle.std.proofs.Common.{◌≡◌, ◌++◌, drop}
use Rattle.model_core.specs.Text.SnapshotText.{stream_lines}
use Rattle.snapshot_text.proofs.printing.put_streams.Given as goal

abbrev pub invariant-loop-stream : goal.invariant-loop-stream
invariant-loop-stream l = l.out.items ++ stream_lines l.stream (drop l.stream l.taken) ≡ l.initial.out.items ++ stream_lines 0 l.taken
