-- One stream more.
use Rattle.std.proofs.Common.{List, map, drop, get_or, None, sym, ap, ◌+◌, ◌∙◌}
use Rattle.std.proofs.lemmas.List.{drop_more}
use Rattle.model_core.specs.Text.SnapshotGrammar.{WrittenStream}
use Rattle.model_core.specs.Saved.GoodSnapshots.{first_bad_part, stream_parts, with_taken}
use Rattle.snapshot_text.specs.declared.parts.RawStream.{RawStream}
use Rattle.snapshot_text.specs.Inner.RawParts.{written_stream}
use Rattle.snapshot_text.proofs.JudgedParts.{one_stream_more}
use Rattle.snapshot_text.proofs.streams.taken_of.Goals as goal

abbrev blank : RawStream
blank = record { at = 0; stream = record { value = None; at = 0 }; words = record { value = None; at = 0 } }

pub loop-stream-preserved : goal.loop-stream-preserved
loop-stream-preserved c =
    let streams = c.args.streams.now in
    let i = c.loop-stream.stream-index in
    let more = sym (ap (map written_stream) (drop_more streams i blank c.loop-stream-test.true)) in
    one_stream_more c.loop-stream.least c.in-Some.number c.in-Some.words (written_stream (get_or streams i blank)) (map written_stream (drop (i + 1) streams)) c.loop-stream.taken.items _ _
    c.in-Some.ensures.is c.in-Some.ensures.within
    (ap (λ (l : List WrittenStream). first_bad_part (stream_parts c.loop-stream.least l)) more ∙ c.loop-stream.invariant.0)
    (ap (λ (l : List WrittenStream). with_taken l c.loop-stream.taken.items) more ∙ c.loop-stream.invariant.1)
    c.loop-stream.invariant.2
