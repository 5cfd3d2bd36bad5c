-- Models with two events that may be due at once, and the moment of a run then.
use Rattle.std.specs.Prelude.{ℕ, List, [], ◌∷◌, replicate, slice_set, codes}
use Rattle.model_core.specs.EventGraph.{EventGraph, Variable, EventVertex, CancelNext, CancelAll}
use Rattle.model_core.specs.Run.State.{State}
use Rattle.model_core.specs.Run.Pending.{Entry}
use Rattle.model_core.specs.Run.Step.{Configuration}
use Rattle.worked_runs.specs.SavedExamples.{due}
use Rattle.worked_runs.specs.Building.{ranged, whole, set, draw, plain_edge, schedule, event}

-- events of the vertex that are due at 5, and at 7
abbrev pub soon : ℕ → Entry
soon vertex = due 5 5 vertex

abbrev pub later : ℕ → Entry
later vertex = due 7 5 vertex

-- a run before the time 5, and at that time
abbrev pub waiting : State → List ℕ → List Entry → Configuration
waiting state taken pending = record { clock = 3; state = state; taken = taken; pending = pending }

abbrev pub at_5 : State → List ℕ → List Entry → Configuration
at_5 state taken pending = record { clock = 5; state = state; taken = taken; pending = pending }

-- so many words were taken from stream 54, and none from the others
abbrev pub words_of_54 : ℕ → List ℕ
words_of_54 n = slice_set (replicate 64 0) 54 n

-- these variables, a first vertex that schedules the events A and B, these two, and C
abbrev pub three_events : List Variable → EventVertex → EventVertex → EventGraph
three_events variables a b = record {
  name = codes "TWO";
  variables = variables;
  tables = [];
  watch = [];
  vertices = event (codes "RUN") [] (schedule 1 (whole 2) ∷ schedule 2 (whole 2) ∷ []) ∷ a ∷ b ∷ event (codes "C") [] [] ∷ [];
}

-- A cancels each C and schedules one, and B schedules A
abbrev pub cutting : EventGraph
cutting = three_events [] (event (codes "A") [] (plain_edge CancelAll 3 [] ∷ schedule 3 (whole 2) ∷ [])) (event (codes "B") [] (schedule 1 (whole 2) ∷ []))

-- both set X
abbrev pub both_write : EventGraph
both_write = three_events (ranged (codes "X") 0 9 0 ∷ []) (event (codes "A") (set 0 (whole 1) ∷ []) []) (event (codes "B") (set 0 (whole 2) ∷ []) [])

-- A draws X and B draws Y from one stream
abbrev pub both_draw : EventGraph
both_draw =
    three_events (ranged (codes "X") 1 6 1 ∷ ranged (codes "Y") 1 6 1 ∷ []) (event (codes "A") (draw 0 54 1 6 ∷ []) []) (event (codes "B") (draw 1 54 1 6 ∷ []) [])

-- A cancels B
abbrev pub cancelling : EventGraph
cancelling = three_events [] (event (codes "A") [] (plain_edge CancelNext 2 [] ∷ [])) (event (codes "B") [] [])
