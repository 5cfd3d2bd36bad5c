-- That a run goes on from a moment as the whole run does, and when two configurations differ in the order of scheduling alone.
use Rattle.std.specs.Prelude.{◌≡◌, ℕ, ◌+◌, ◌≤◌, ℤ, List, Some}
use Rattle.model_core.specs.EventGraph.{EventGraph}
use Rattle.model_core.specs.Run.Step.{Configuration}
use Rattle.model_core.specs.Run.Machine.{ahead}
use Rattle.model_core.specs.Run.History.{Moment, start, look, look_from, reached_from}
use Rattle.model_core.specs.Saved.DueOrder.{in_due_order}

-- The run is going on at this moment after n steps up to a stop time. From there on it goes on as the whole run does, up
-- to any stop time that isn't before the clock.
pub record GoesOn (g : EventGraph) (seed : ℕ) (starts : List ℤ) (until n : ℕ) (m : Moment) : Type 0 where
  pub reaches : reached_from g seed until n (start g starts) ≡ Some (record { notes = (look g seed starts until n).history; moment = m })
  pub early : m.now.clock ≤ until
  pub whole : (later more : ℕ) → m.now.clock ≤ later → look g seed starts later (n + more) ≡ ahead (look g seed starts until n).history (look_from g seed later more m)

-- clock, state and words taken are the same, and the same events are next in the same order: only of two events that differ in time
-- or in priority may one run have scheduled the one first, and the other run the other
pub record Alike (c d : Configuration) : Type 0 where
  pub clock : c.clock ≡ d.clock
  pub state : c.state ≡ d.state
  pub taken : c.taken ≡ d.taken
  pub due : in_due_order c.pending ≡ in_due_order d.pending
