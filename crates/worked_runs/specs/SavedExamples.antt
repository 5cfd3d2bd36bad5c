-- Snapshots of the clock that counts, and pending events of several times and priorities.
use Rattle.std.specs.Prelude.{ℕ, pos, List, [], ◌∷◌, replicate, Some}
use Rattle.model_core.specs.Run.Pending.{Entry}
use Rattle.model_core.specs.Saved.SavedRun.{SavedRun}
use Rattle.worked_runs.specs.Moments.{next_count}

-- saved after two events, as N is 2 and the last note had 1
abbrev pub saved_clock : SavedRun
saved_clock = record {
  seed = 42;
  clock = 5;
  events = 2;
  taken = replicate 64 0;
  values = pos 2 ∷ [];
  noted = Some (pos 1 ∷ []);
  pending = next_count 5 ∷ [];
}

-- an event of the vertex that carries nothing
abbrev pub due : ℕ → ℕ → ℕ → Entry
due time priority vertex = record { time = time; priority = priority; vertex = vertex; values = [] }

-- in the order of scheduling
abbrev pub five_pending : List Entry
five_pending = due 9 5 0 ∷ due 4 5 1 ∷ due 4 5 2 ∷ due 4 3 3 ∷ due 4 5 4 ∷ []

-- in the order in which they are next
abbrev pub five_due : List Entry
five_due = due 4 3 3 ∷ due 4 5 1 ∷ due 4 5 2 ∷ due 4 5 4 ∷ due 9 5 0 ∷ []
