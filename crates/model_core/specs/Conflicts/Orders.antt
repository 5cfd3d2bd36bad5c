-- Two simultaneous events, and what it means that they commute.
use Rattle.std.specs.Prelude.{◌≡◌, ◌≢◌, ℕ, ◌==◌, Bool, true, ◌&&◌, List, Option, Some, slice_get, Result, Ok, Err}
use Rattle.std.specs.List.{count_by, remove}
use Rattle.model_core.specs.EventGraph.{EventGraph}
use Rattle.model_core.specs.Run.Pending.{Entry, is_event_with}
use Rattle.model_core.specs.Run.Step.{Configuration, Fault}
use Rattle.model_core.specs.Rules.MarkedPlaces.{is_among, place_without}
use Rattle.model_core.specs.Conflicts.Priorities.{priorities_of}
use Rattle.model_core.specs.Conflicts.Perform.{perform, place_after_first}

-- the entry's priority is one of its vertex's
abbrev pub HasOwnPriority : EventGraph → Entry → Type 0
HasOwnPriority g e = is_among (priorities_of g e.vertex) e.priority ≡ true

-- events at two places that are due at once: at equal times, and with equal priorities, which are priorities of their vertices
pub record Simultaneous (g : EventGraph) (pending : List Entry) (first second : ℕ) (a b : Entry) : Type 0 where
  pub first_there : slice_get pending first ≡ Some a
  pub second_there : slice_get pending second ≡ Some b
  pub apart : first ≢ second
  pub times : a.time ≡ b.time
  pub priorities : a.priority ≡ b.priority
  pub first_own : HasOwnPriority g a
  pub second_own : HasOwnPriority g b

-- equal entries
abbrev pub same_entry : Entry → Entry → Bool
same_entry a b = (a.time == b.time) && (a.priority == b.priority) && is_event_with a.vertex a.values b

-- how often a list holds an entry
abbrev pub times_pending : Entry → List Entry → ℕ
times_pending e pending = count_by (same_entry e) pending

-- the same but for the order of what is pending: each entry is held equally often
pub record SameButForOrder (c d : Configuration) : Type 0 where
  pub clocks : c.clock ≡ d.clock
  pub states : c.state ≡ d.state
  pub words : c.taken ≡ d.taken
  pub held : (e : Entry) → times_pending e c.pending ≡ times_pending e d.pending

-- both orders fault, or both give the same but for the order of what is pending
pub data Commute : Option (Result Configuration Fault) → Option (Result Configuration Fault) → Type 0 where
  both_fault : (f h : Fault) → Commute (Some (Err f)) (Some (Err h))
  both_give : {c d : Configuration} → SameButForOrder c d → Commute (Some (Ok c)) (Some (Ok d))

-- While the first event occurs, which gives d, the second one, e, stays pending, at its place then. Apart from it the
-- first gives what it gives where the second isn't pending.
pub record StaysPending (g : EventGraph) (seed : ℕ) (c : Configuration) (first second : ℕ) (e : Entry) (d : Configuration) : Type 0 where
  pub there : slice_get d.pending (place_after_first c.pending first second e.vertex d.pending) ≡ Some e
  pub unseen : perform g seed (record c { pending = remove c.pending second }) (place_without second first) ≡ Some (Ok (record d { pending = remove d.pending (place_after_first c.pending first second e.vertex d.pending) }))
