-- The parts of a snapshot as the code has read them, seen as the definition's.
use Rattle.std.specs.Prelude.{[], map, unwrap_or}
use Rattle.std.specs.Option.{option_map}
use Rattle.model_core.specs.Code.WrittenViews.{written_number, written_signed}
use Rattle.model_core.specs.Text.SnapshotGrammar.{WrittenStream, WrittenValue, WrittenNoted, WrittenCarried, WrittenPending, WrittenSnapshot}
use Rattle.model_read.specs.Spelled.{spelled_name, digits_written}
use Rattle.snapshot_text.specs.declared.parts.RawStream.{RawStream}
use Rattle.snapshot_text.specs.declared.parts.RawValue.{RawValue}
use Rattle.snapshot_text.specs.declared.parts.RawNoted.{RawNoted}
use Rattle.snapshot_text.specs.declared.parts.RawCarried.{RawCarried}
use Rattle.snapshot_text.specs.declared.parts.RawPending.{RawPending}
use Rattle.snapshot_text.specs.declared.parts.RawSnapshot.{RawSnapshot}
use Rattle.snapshot_text.specs.Inner.SnapshotHead.{with_parts}

abbrev pub written_stream : RawStream → WrittenStream
written_stream s = record { at = s.at; stream = written_number s.stream; words = written_number s.words }

abbrev pub written_value : RawValue → WrittenValue
written_value v = record { at = v.at; variable = spelled_name v.variable; values = map written_signed v.values }

abbrev pub written_noted : RawNoted → WrittenNoted
written_noted n = record { at = n.at; values = unwrap_or (option_map (map written_signed) n.values) [] }

abbrev pub written_carried : RawCarried → WrittenCarried
written_carried c = record { negative = c.negative; exact = digits_written c.digits }

abbrev pub written_pending : RawPending → WrittenPending
written_pending p = record {
  at = p.at;
  ticks = written_number p.ticks;
  priority = written_number p.priority;
  vertex = spelled_name p.vertex;
  values = unwrap_or (option_map (map written_carried) p.values) [];
}

abbrev pub written_snapshot : RawSnapshot → WrittenSnapshot
written_snapshot s = with_parts s.head (map written_stream s.streams) (map written_value s.values) (option_map written_noted s.noted) (map written_pending s.pending) s.end_at
