-- What changes and a delay leave, also where one of them faults.
use Rattle.std.specs.Prelude.{ℕ, ℤ, List, [], ◌∷◌, zip, Ok, Err}
use Rattle.std.specs.Result.{result_unwrap_or}
use Rattle.sig_base.specs.Stream.{word}
use Rattle.model_core.specs.EventGraph.{EventGraph, Choice, StateChange, Set, Draw, Location, Expression, Delay, Fixed, Drawn}
use Rattle.model_core.specs.Run.State.{State, Place}
use Rattle.model_core.specs.Run.Value.{OrFault, ◌>>=◌, each, value_of, place_of}
use Rattle.model_core.specs.Run.Changes.{ChangeState, store, taken_from, one_more, drawn_value, make_change}

-- what a part that is made goes on to, or what it leaves where it faults
abbrev pub or_left : {S : Type 0} → OrFault S → S → (S → S) → S
or_left (Ok s) left next = next s
or_left (Err k) left next = left

-- what is left when one part after the other was made, up to the first that faults. `left` says what that one leaves
abbrev pub left_in_turn : {A S : Type 0} → (A → S → OrFault S) → (A → S → S) → List A → S → S
left_in_turn f left [] s = s
left_in_turn f left (a ∷ as_) s = or_left (f a s) (left a s) (left_in_turn f left as_)

-- the stores made before the first that faults
abbrev pub left_by_stores : EventGraph → List (Place × ℤ) → State → State
left_by_stores g stores s = left_in_turn (store g) (λ p t. t) stores s

-- a `set` makes no store where a right side or an index faults
abbrev pub left_by_set : EventGraph → ℕ → List Location → List Expression → State → State
left_by_set g clk targets rights s = result_unwrap_or (do
  values ← each (value_of g s clk) rights
  places ← each (place_of g s clk) targets
  Ok (left_by_stores g (zip places values) s)) s

-- a draw takes its word before its store, and none where its index faults
abbrev pub left_by_draw : EventGraph → ℕ → ℕ → Location → ℕ → Choice → ChangeState → ChangeState
left_by_draw g seed clk target stream choice d = result_unwrap_or (do
  p ← place_of g d.state clk target
  Ok (record {
    state = left_by_stores g ((p, drawn_value g choice (word seed stream (taken_from d.taken stream))) ∷ []) d.state;
    taken = one_more d.taken stream;
  })) d

abbrev pub left_by_change : EventGraph → ℕ → ℕ → StateChange → ChangeState → ChangeState
left_by_change g seed clk (Set targets rights) d = record d { state = left_by_set g clk targets rights d.state }
left_by_change g seed clk (Draw target stream choice) d = left_by_draw g seed clk target stream choice d

-- what changes leave: the stores made before the first fault, and the words taken up to it
abbrev pub left_by_changes : EventGraph → ℕ → ℕ → List StateChange → ChangeState → ChangeState
left_by_changes g seed clk changes d = left_in_turn (make_change g seed clk) (left_by_change g seed clk) changes d

-- how many words were taken when a delay is known, also where it is a fault: a drawn one takes its word first
abbrev pub left_by_delay : Delay → List ℕ → List ℕ
left_by_delay (Fixed e) taken = taken
left_by_delay (Drawn stream choice) taken = one_more taken stream
