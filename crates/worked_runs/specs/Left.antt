-- Words for what changes leave.
use Rattle.std.specs.Prelude.{ℕ, pos, List, [], ◌∷◌, replicate}
use Rattle.model_core.specs.EventGraph.{EventGraph, StateChange, Set, Draw, Uniform}
use Rattle.model_core.specs.Run.State.{State, initial_state}
use Rattle.model_core.specs.Run.Changes.{ChangeState}
use Rattle.worked_runs.specs.Building.{whole, at_variable, at_cell}

-- the state with which a run begins, and no words taken
abbrev pub as_it_begins : EventGraph → ChangeState
as_it_begins g = record { state = initial_state g; taken = replicate 64 0 }

abbrev pub with_state : State → ChangeState → ChangeState
with_state s d = record d { state = s }

abbrev pub with_words : List ℕ → ChangeState → ChangeState
with_words taken d = record d { taken = taken }

-- I := 3 beside A[0] := 10, which is outside
abbrev pub second_store_bad : StateChange
second_store_bad = Set (at_variable 0 ∷ at_cell 1 (whole 0) ∷ []) (whole 3 ∷ whole 10 ∷ [])

-- A[2] is drawn, where A has no cell 2
abbrev pub bad_index_drawn : StateChange
bad_index_drawn = Draw (at_cell 1 (whole 2)) 54 (Uniform (pos 1) (pos 6))
