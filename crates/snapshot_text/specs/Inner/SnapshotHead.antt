-- How a snapshot begins, before its streams. The other parts follow it.
use Rattle.std.specs.Prelude.{ℕ, List, Option, codes}
use Rattle.model_core.specs.declared.token.Word.TheVariants as words
use Rattle.model_core.specs.Code.WrittenViews.{written_number}
use Rattle.model_core.specs.Text.Format.{Yields, reserved, this_name, any_number, ◌<*>◌, ◌<*◌}
use Rattle.model_core.specs.Text.Expressions.{LanguageFormat}
use Rattle.model_core.specs.Text.SnapshotGrammar.{WrittenStream, WrittenValue, WrittenNoted, WrittenPending, WrittenSnapshot}
use Rattle.snapshot_text.specs.declared.parts.RawHead.{RawHead}

-- a snapshot that begins so
abbrev pub with_parts : RawHead → List WrittenStream → List WrittenValue → Option WrittenNoted → List WrittenPending → ℕ → WrittenSnapshot
with_parts h streams values noted pending end_at = record {
  seed_at = h.seed_at;
  seed = written_number h.seed;
  seed_rest = written_number h.seed_rest;
  clock_at = h.clock_at;
  clock = written_number h.clock;
  events_at = h.events_at;
  events = written_number h.events;
  streams = streams;
  values = values;
  noted = noted;
  pending = pending;
  end_at = end_at;
}

-- `snapshot`, and the seed, the clock and the number of events, each after its word
unfoldable pub head_format : LanguageFormat (List WrittenStream → List WrittenValue → Option WrittenNoted → List WrittenPending → ℕ → WrittenSnapshot)
head_format =
    Yields (λ seed_at seed rest clock_at clock events_at events streams values noted pending end_at.
    record { seed_at = seed_at; seed = seed; seed_rest = rest; clock_at = clock_at; clock = clock; events_at = events_at; events = events; streams = streams; values = values; noted = noted; pending = pending; end_at = end_at })
    <* this_name (codes "snapshot") <*> this_name (codes "seed") <*> any_number <*> any_number <*> reserved words.Clk <*> any_number <*> this_name (codes "events") <*> any_number
