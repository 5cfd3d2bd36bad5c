-- What is true of a run of a single urgent model between any two of its steps.
use Rattle.std.specs.Prelude.{◌≡◌, ℕ, suc, ◌≤◌, ◌==◌, cond, IsTrue, List, [], ◌∷◌}
use Rattle.std.specs.List.{AllByRecursion}
use Rattle.model_core.specs.EventGraph.{EventGraph}
use Rattle.model_core.specs.Run.State.{in_range}
use Rattle.model_core.specs.Run.Pending.{Entry}
use Rattle.model_core.specs.Run.Step.{Configuration}

-- how many entries have priority 0, which urgent edges alone give
abbrev pub urgent_count : List Entry → ℕ
urgent_count [] = 0
urgent_count (e ∷ es) = cond (e.priority == 0) (suc (urgent_count es)) (urgent_count es)

-- at most one entry has priority 0, and that one has the clock's time
pub record AtMostOneUrgent (clock : ℕ) (pending : List Entry) : Type 0 where
  pub one : urgent_count pending ≤ 1
  pub now : AllByRecursion (λ (e : Entry). e.priority ≡ 0 → e.time ≡ clock) pending

-- so it is of a configuration, and besides, as in each run, no entry is earlier than the clock, and the state is in range
pub record IsSettled (g : EventGraph) (c : Configuration) : Type 0 where
  pub urgent : AtMostOneUrgent c.clock c.pending
  pub late : AllByRecursion (λ (e : Entry). c.clock ≤ e.time) c.pending
  pub inside : IsTrue (in_range g c.state)
