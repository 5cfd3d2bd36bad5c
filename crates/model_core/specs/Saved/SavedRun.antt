-- What is kept of a run that is stopped, which of it is good for a model, and how the run goes on from it.
use Rattle.std.specs.Prelude.{◌≡◌, ℕ, ◌+◌, ◌-◌, ◌^◌, ◌<◌, ◌≤◌, ℤ, pos, neg_ℤ, ◌≤ℤ◌, IsTrue, List, length, map, Option, option_map, IfSome}
use Rattle.std.specs.List.{AllByRecursion}
use Rattle.model_core.specs.EventGraph.{EventGraph}
use Rattle.model_core.specs.Run.State.{cell_count, in_ranges}
use Rattle.model_core.specs.Run.Pending.{Entry}
use Rattle.model_core.specs.Run.Step.{vertex_at}
use Rattle.model_core.specs.Run.Machine.{Look}
use Rattle.model_core.specs.Run.History.{Moment, look_from}
use Rattle.model_core.specs.Saved.Cells.{watched_sizes, cut_up, in_one_list, cell_variables, variables_watched}
use Rattle.model_core.specs.Saved.DueOrder.{in_due_order}

-- the seed, the clock, how many events occurred, the words taken from each stream, the value of each cell and of each
-- watched cell at the last `at` note, in order, and the pending events
pub record SavedRun : Type 0 where
  pub seed : ℕ
  pub clock : ℕ
  pub events : ℕ
  pub taken : List ℕ
  pub values : List ℤ
  pub noted : Option (List ℤ)
  pub pending : List Entry

-- ---- what is good

-- a number of 64 bits
pub record IsWide (x : ℤ) : Type 0 where
  pub least : neg_ℤ (pos (2 ^ 63)) ≤ℤ x
  pub greatest : x ≤ℤ pos (2 ^ 63 - 1)

-- an event that may be pending at this clock
pub record IsGoodEntry (g : EventGraph) (clock : ℕ) (e : Entry) : Type 0 where
  pub from_now : clock ≤ e.time
  pub near : e.time ≤ clock + (2 ^ 63 - 1)
  pub priority : e.priority ≤ 255
  pub vertex : e.vertex < length g.vertices
  pub matched : length e.values ≡ length (vertex_at g e.vertex).parameters
  pub wide : AllByRecursion IsWide e.values

pub record IsGood (g : EventGraph) (s : SavedRun) : Type 0 where
  pub seed : s.seed < 2 ^ 64
  pub clock : s.clock ≤ 2 ^ 48
  pub events : s.events ≤ 2 ^ 40
  pub streams : length s.taken ≡ 64
  pub words : AllByRecursion (λ n. n ≤ 2 ^ 52) s.taken
  pub values : IsTrue (in_ranges (cell_variables g.variables) s.values)
  pub noted : IfSome s.noted (λ values. IsTrue (in_ranges (cell_variables (variables_watched g g.watch)) values))
  pub pending : AllByRecursion (IsGoodEntry g s.clock) s.pending

-- ---- saving, and going on

-- what is saved of a run at this moment, after so many events
abbrev pub saved : ℕ → ℕ → Moment → SavedRun
saved seed events m = record {
  seed = seed;
  clock = m.now.clock;
  events = events;
  taken = m.now.taken;
  values = in_one_list m.now.state;
  noted = option_map in_one_list m.noted;
  pending = in_due_order m.now.pending;
}

-- the moment at which a saved run goes on
abbrev pub saved_moment : EventGraph → SavedRun → Moment
saved_moment g s = record {
  now = record { clock = s.clock; state = cut_up (map cell_count g.variables) s.values; taken = s.taken; pending = s.pending };
  noted = option_map (cut_up (watched_sizes g g.watch)) s.noted;
}

-- what a saved run shows further on, up to a stop time and after at most so many events
abbrev pub history_from : EventGraph → SavedRun → ℕ → ℕ → Look
history_from g s until more = look_from g s.seed until more (saved_moment g s)
