use Rattle.std.proofs.Common.{◌≡◌, ◌≤◌, length, map, drop, replicate}
use Rattle.model_core.specs.Saved.GoodSnapshots.{first_bad_part, stream_parts, with_taken}
use Rattle.snapshot_text.specs.Inner.RawParts.{written_stream}
use Rattle.snapshot_text.proofs.streams.taken_of.Given as goal

abbrev pub invariant-loop-stream : goal.invariant-loop-stream
invariant-loop-stream l =
    (first_bad_part (stream_parts l.least (map written_stream (drop l.stream-index l.streams))) ≡ first_bad_part (stream_parts 0 (map written_stream l.streams)))
    × (with_taken (map written_stream (drop l.stream-index l.streams)) l.taken.items ≡ with_taken (map written_stream l.streams) (replicate 64 0))
    × (length l.taken.items ≡ 64)
    × (l.least ≤ 64)
