-- Performing a pending event out of turn, and then another one.
use Rattle.std.specs.Prelude.{ℕ, zero, suc, cond, List, [], ◌∷◌, take, Option, Some, option_map, slice_get, Result, Ok, Err}
use Rattle.std.specs.List.{remove, count_by}
use Rattle.std.specs.Option.{option_and_then}
use Rattle.model_core.specs.EventGraph.{EventGraph}
use Rattle.model_core.specs.Run.Pending.{Entry, EntryAndRest, is_of}
use Rattle.model_core.specs.Run.Step.{Configuration, Fault, step}
use Rattle.model_core.specs.Rules.MarkedPlaces.{place_without}

-- the entry at a place, and the list without it
abbrev pub taken_at : List Entry → ℕ → Option EntryAndRest
taken_at pending place = option_map (λ e. record { entry = e; others = remove pending place }) (slice_get pending place)

-- a step with the entry at this place in the next entry's stead, if there is one
abbrev pub perform : EventGraph → ℕ → Configuration → ℕ → Option (Result Configuration Fault)
perform g seed c place = option_map (step g seed c) (taken_at c.pending place)

-- how many events of the vertex are ahead of a place
abbrev pub events_ahead : ℕ → List Entry → ℕ → ℕ
events_ahead vertex pending place = count_by (is_of vertex) (take place pending)

-- the place of the event of the vertex that has so many of them ahead of it
abbrev pub place_with_ahead : ℕ → ℕ → List Entry → ℕ
place_with_ahead vertex n [] = 0
place_with_ahead vertex zero (e ∷ es) = cond (is_of vertex e) 0 (suc (place_with_ahead vertex zero es))
place_with_ahead vertex (suc n) (e ∷ es) = suc (place_with_ahead vertex (cond (is_of vertex e) n (suc n)) es)

-- The place of the second event in the pending list that the first one left. Where the first one cancels no event of the
-- second one's vertex, the second still has those of its vertex ahead of it that it had, but for the first event: what is
-- scheduled comes after them.
abbrev pub place_after_first : List Entry → ℕ → ℕ → ℕ → List Entry → ℕ
place_after_first before first second vertex after =
    place_with_ahead vertex (events_ahead vertex (remove before first) (place_without first second)) after

-- the event at the second place of the list before, performed after the first, unless that one faulted
abbrev pub after_second_event : EventGraph → ℕ → List Entry → ℕ → ℕ → Entry → Result Configuration Fault → Option (Result Configuration Fault)
after_second_event g seed before first second e (Ok d) = perform g seed d (place_after_first before first second e.vertex d.pending)
after_second_event g seed before first second e (Err fault) = Some (Err fault)

-- the event at the first place, and then the one at the second
abbrev pub after_both_events : EventGraph → ℕ → Configuration → ℕ → ℕ → Option (Result Configuration Fault)
after_both_events g seed c first second =
    option_and_then (λ e. option_and_then (after_second_event g seed c.pending first second e) (perform g seed c first)) (slice_get c.pending second)
