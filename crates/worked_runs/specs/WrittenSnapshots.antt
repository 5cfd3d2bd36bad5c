-- Written snapshots of the harbour: with the least numbers that are good, with the greatest, and with one part another.
use Rattle.std.specs.Prelude.{ℕ, ◌+◌, true, false, List, [], ◌∷◌, Some, None, codes}
use Rattle.model_core.specs.Text.Written.{WrittenNumber, WrittenSigned}
use Rattle.model_core.specs.Text.SnapshotGrammar.{WrittenStream, WrittenValue, WrittenNoted, WrittenCarried, WrittenPending, WrittenSnapshot}
use Rattle.worked_runs.specs.WrittenParts.{spelled, figure, plain_figure, minus_figure}

-- ---- parts, each at this byte

abbrev pub stream_part : ℕ → WrittenNumber → WrittenNumber → WrittenStream
stream_part at stream words = record { at = at; stream = stream; words = words }

-- so many words of a stream
abbrev pub words_of : ℕ → ℕ → ℕ → WrittenStream
words_of at stream words = stream_part at (figure stream (at + 7)) (figure words (at + 10))

abbrev pub value_part : ℕ → List ℕ → List WrittenSigned → WrittenValue
value_part at name values = record { at = at; variable = spelled name (at + 6); values = values }

abbrev pub noted_part : ℕ → List WrittenSigned → WrittenNoted
noted_part at values = record { at = at; values = values }

abbrev pub carried : ℕ → WrittenCarried
carried n = record { negative = false; exact = n }

abbrev pub minus_carried : ℕ → WrittenCarried
minus_carried n = record { negative = true; exact = n }

abbrev pub event_part : ℕ → WrittenNumber → WrittenNumber → List ℕ → List WrittenCarried → WrittenPending
event_part at ticks priority vertex values = record { at = at; ticks = ticks; priority = priority; vertex = spelled vertex (at + 12); values = values }

-- an event of RUN at byte 130, which carries nothing
abbrev pub event_of_run : WrittenNumber → WrittenNumber → WrittenPending
event_of_run ticks priority = event_part 130 ticks priority (codes "RUN") []

-- an event of A at byte 140
abbrev pub event_of_a : List WrittenCarried → WrittenPending
event_of_a values = event_part 140 (figure 1 148) (figure 5 150) (codes "A") values

-- ---- snapshots

-- the parts of the seed, the clock and the events are at 9, 20 and 30, and the `end` at 200
abbrev pub numbered_so : WrittenNumber → WrittenNumber → WrittenNumber → WrittenNumber → WrittenSnapshot
numbered_so seed rest clock events = record {
  seed_at = 9;
  seed = seed;
  seed_rest = rest;
  clock_at = 20;
  clock = clock;
  events_at = 30;
  events = events;
  streams = [];
  values = value_part 60 (codes "N") (minus_figure 3 68 ∷ []) ∷ value_part 70 (codes "FLAGS") (plain_figure 0 82 ∷ plain_figure 0 84 ∷ []) ∷ value_part 90 (codes "Z") (minus_figure 4611686018427387904 98 ∷ []) ∷ [];
  noted = None;
  pending = [];
  end_at = 200;
}

-- no stream gave a word, nothing was noted, and nothing is pending
abbrev pub bare : WrittenSnapshot
bare = numbered_so (figure 0 14) (figure 0 16) (figure 0 24) (figure 0 37)

abbrev pub taking_streams : List WrittenStream → WrittenSnapshot
taking_streams streams = record bare { streams = streams }

-- two streams, each of which gave a word
abbrev pub with_two_streams : ℕ → ℕ → WrittenSnapshot
with_two_streams first second = taking_streams (words_of 40 first 1 ∷ words_of 50 second 1 ∷ [])

abbrev pub with_values : List WrittenValue → WrittenSnapshot
with_values values = record bare { values = values }

-- these values of N, beside those of the others
abbrev pub with_n : List WrittenSigned → WrittenSnapshot
with_n values = with_values (value_part 60 (codes "N") values ∷ value_part 70 (codes "FLAGS") (plain_figure 1 82 ∷ plain_figure 1 84 ∷ []) ∷ value_part 90 (codes "Z") (plain_figure 4611686018427387904 98 ∷ []) ∷ [])

abbrev pub with_flags : List WrittenSigned → WrittenSnapshot
with_flags values = with_values (value_part 60 (codes "N") (plain_figure 9 68 ∷ []) ∷ value_part 70 (codes "FLAGS") values ∷ value_part 90 (codes "Z") (plain_figure 0 98 ∷ []) ∷ [])

abbrev pub with_z : WrittenSigned → WrittenSnapshot
with_z value = with_values (value_part 60 (codes "N") (plain_figure 0 68 ∷ []) ∷ value_part 70 (codes "FLAGS") (plain_figure 0 82 ∷ plain_figure 1 84 ∷ []) ∷ value_part 90 (codes "Z") (value ∷ []) ∷ [])

abbrev pub with_noted : List WrittenSigned → WrittenSnapshot
with_noted values = record bare { noted = Some (noted_part 120 values) }

abbrev pub with_pending : List WrittenPending → WrittenSnapshot
with_pending pending = record bare { pending = pending }

-- an event of RUN, and one of A that carries 1 and 2
abbrev pub with_run_at : WrittenNumber → WrittenNumber → WrittenSnapshot
with_run_at ticks priority = with_pending (event_of_run ticks priority ∷ event_of_a (carried 1 ∷ carried 2 ∷ []) ∷ [])

-- an event of RUN, and one of A that carries these
abbrev pub with_a : List WrittenCarried → WrittenSnapshot
with_a values = with_pending (event_of_run (figure 0 138) (figure 0 140) ∷ event_of_a values ∷ [])

-- an event of this vertex that carries these
abbrev pub with_event_of : List ℕ → List WrittenCarried → WrittenSnapshot
with_event_of vertex values = with_pending (event_part 130 (figure 0 138) (figure 5 140) vertex values ∷ [])

-- ---- parts that are bad

abbrev pub bad_stream : WrittenStream
bad_stream = words_of 40 64 1

abbrev pub bad_value : WrittenValue
bad_value = value_part 60 (codes "N") (plain_figure 10 68 ∷ [])

abbrev pub bad_noted : WrittenNoted
bad_noted = noted_part 120 []

abbrev pub bad_event : WrittenPending
bad_event = event_part 130 (figure 0 138) (figure 256 140) (codes "RUN") []
