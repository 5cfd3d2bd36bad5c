-- Saved runs of the harbour: their snapshots, and their moments.
use Rattle.std.specs.Prelude.{ℕ, ℤ, pos, neg_ℤ, List, [], ◌∷◌, replicate, slice_set, Some, None, codes}
use Rattle.model_core.specs.Run.Pending.{Entry}
use Rattle.model_core.specs.Run.History.{Moment}
use Rattle.model_core.specs.Saved.SavedRun.{SavedRun}
use Rattle.model_core.specs.Text.SnapshotGrammar.{WrittenSnapshot}
use Rattle.worked_runs.specs.SavedExamples.{due}
use Rattle.worked_runs.specs.WrittenParts.{figure, plain_figure, minus_figure}
use Rattle.worked_runs.specs.WrittenSnapshots.{words_of, value_part, noted_part, carried, minus_carried, event_part, numbered_so}

-- the words taken from the streams 0, 54 and 63
abbrev pub taken_from_three : ℕ → ℕ → ℕ → List ℕ
taken_from_three first second third = slice_set (slice_set (slice_set (replicate 64 0) 0 first) 54 second) 63 third

-- the seed is 3 * 2^32 + 7, and the event that is next is last in the list
abbrev pub two_pending : WrittenSnapshot
two_pending = record (numbered_so (figure 3 14) (figure 7 16) (figure 5 24) (figure 2 37)) {
  streams = words_of 40 0 4 ∷ words_of 50 54 2 ∷ words_of 55 63 9 ∷ [];
  values = value_part 60 (codes "N") (minus_figure 3 68 ∷ []) ∷ value_part 70 (codes "FLAGS") (plain_figure 1 82 ∷ plain_figure 0 84 ∷ []) ∷ value_part 90 (codes "Z") (plain_figure 12 98 ∷ []) ∷ [];
  noted = Some (noted_part 120 (plain_figure 0 126 ∷ plain_figure 1 128 ∷ minus_figure 2 130 ∷ []));
  pending =
      event_part 140 (figure 6 148) (figure 0 150) (codes "A") (minus_carried 9223372036854775808 ∷ carried 4 ∷ [])
      ∷ event_part 170 (figure 0 178) (figure 255 180) (codes "RUN") []
      ∷ event_part 190 (figure 0 198) (figure 9 200) (codes "A") (minus_carried 0 ∷ minus_carried 2 ∷ []) ∷ [];
}

-- an event of A that carries these
abbrev pub a_due : ℕ → ℕ → List ℤ → Entry
a_due time priority values = record { time = time; priority = priority; vertex = 1; values = values }

abbrev pub least_and_four : List ℤ
least_and_four = neg_ℤ (pos 9223372036854775808) ∷ pos 4 ∷ []

abbrev pub two_events_saved : SavedRun
two_events_saved = record {
  seed = 12884901895;
  clock = 5;
  events = 2;
  taken = taken_from_three 4 2 9;
  values = neg_ℤ (pos 3) ∷ pos 1 ∷ pos 0 ∷ pos 12 ∷ [];
  noted = Some (pos 0 ∷ pos 1 ∷ neg_ℤ (pos 2) ∷ []);
  pending = a_due 11 0 least_and_four ∷ due 5 255 0 ∷ a_due 5 9 (pos 0 ∷ neg_ℤ (pos 2) ∷ []) ∷ [];
}

-- the same with its events in due order
abbrev pub two_events_due : SavedRun
two_events_due = record two_events_saved { pending = a_due 5 9 (pos 0 ∷ neg_ℤ (pos 2) ∷ []) ∷ due 5 255 0 ∷ a_due 11 0 least_and_four ∷ [] }

-- the moment of that run
abbrev pub two_events_moment : Moment
two_events_moment = record {
  now = record {
    clock = 5;
    state = (neg_ℤ (pos 3) ∷ []) ∷ (pos 1 ∷ pos 0 ∷ []) ∷ (pos 12 ∷ []) ∷ [];
    taken = taken_from_three 4 2 9;
    pending = two_events_saved.pending;
  };
  noted = Some ((pos 0 ∷ pos 1 ∷ []) ∷ (neg_ℤ (pos 2) ∷ []) ∷ []);
}

abbrev pub bare_saved : SavedRun
bare_saved = record {
  seed = 0;
  clock = 0;
  events = 0;
  taken = replicate 64 0;
  values = neg_ℤ (pos 3) ∷ pos 0 ∷ pos 0 ∷ neg_ℤ (pos 4611686018427387904) ∷ [];
  noted = None;
  pending = [];
}

abbrev pub bare_moment : Moment
bare_moment = record {
  now = record {
    clock = 0;
    state = (neg_ℤ (pos 3) ∷ []) ∷ (pos 0 ∷ pos 0 ∷ []) ∷ (neg_ℤ (pos 4611686018427387904) ∷ []) ∷ [];
    taken = replicate 64 0;
    pending = [];
  };
  noted = None;
}

-- the clock whose delays are drawn from stream 54, after two events
abbrev pub saved_delay : SavedRun
saved_delay = record {
  seed = 42;
  clock = 4;
  events = 2;
  taken = taken_from_three 0 2 0;
  values = pos 2 ∷ [];
  noted = Some (pos 1 ∷ []);
  pending = due 7 5 0 ∷ [];
}
