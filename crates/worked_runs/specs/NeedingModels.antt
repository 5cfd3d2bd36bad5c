-- Models of two variables, of which one is needed for one reason, or none is; and the bank without the variable that it
-- doesn't need.
use Rattle.std.specs.Prelude.{ℕ, List, [], ◌∷◌, codes}
use Rattle.model_core.specs.EventGraph.{EventGraph, Variable, StateChange, EventEdge, Watched, Fixed, Schedule, Scalar, Set, CancelEqual, Urgent}
use Rattle.worked_runs.specs.Building.{ranged, clipped, array, whole, plain_edge, event, takes, set, at_variable, plus_one, draw, schedule, schedule_with, x_watched}
use Rattle.worked_runs.specs.Models.{bank, bank_run, bank_start, bank_leave, entering, two_draws}

-- X and Y; RUN takes these and makes these changes, and its edges lead to A, which takes X
abbrev pub two_variables : Variable → Variable → List Watched → List ℕ → List StateChange → List EventEdge → EventGraph
two_variables x y watch parameters changes edges = record {
  name = codes "NEEDS";
  variables = x ∷ y ∷ [];
  tables = [];
  watch = watch;
  vertices =
      takes parameters (event (codes "RUN") changes edges) ∷
      takes (0 ∷ []) (event (codes "A") [] []) ∷
      [];
}

abbrev pub clipped_one : List ℕ → Variable
clipped_one name = clipped (ranged name 0 9 0)

-- a store in X or in Y never faults
abbrev pub unfaulting : List Watched → List ℕ → List StateChange → List EventEdge → EventGraph
unfaulting watch parameters changes edges = two_variables (clipped_one (codes "X")) (clipped_one (codes "Y")) watch parameters changes edges

-- a store in X beyond 0..9 faults
abbrev pub strict : List StateChange → List EventEdge → EventGraph
strict changes edges = two_variables (ranged (codes "X") 0 9 0) (clipped_one (codes "Y")) [] [] changes edges

-- X is an array of three cells, which is watched or isn't
abbrev pub with_cells : List Watched → List StateChange → EventGraph
with_cells watch changes = two_variables (array 3 (clipped_one (codes "X"))) (clipped (ranged (codes "Y") 0 2 0)) watch [] changes []

-- the edge to A carries the value of a variable
abbrev pub carrying_variable : ℕ → EventEdge
carrying_variable v = plain_edge (Schedule (Fixed (whole 5)) 5) 1 (Scalar v ∷ [])

-- X and Y grow by 1, each by what it is
abbrev pub both_grow : StateChange
both_grow = Set (at_variable 0 ∷ at_variable 1 ∷ []) (plus_one 0 ∷ plus_one 1 ∷ [])

-- the bank without SEEN
abbrev pub unseen_bank : EventGraph
unseen_bank = record bank {
  variables =
      ranged (codes "QUEUE") 0 1000000 0 ∷
      ranged (codes "IDLE") 0 2 0 ∷
      ranged (codes "GAP") 1 6 1 ∷
      [];
  vertices = bank_run ∷ entering (codes "ENTER") ∷ bank_start ∷ bank_leave ∷ [];
}

-- X alone is drawn
abbrev pub one_draw : EventGraph
one_draw = record (two_draws 53) {
  variables = ranged (codes "X") 1 6 1 ∷ [];
  vertices = event (codes "RUN") (draw 0 54 1 6 ∷ []) [] ∷ [];
}

-- Y grows, and then X and Y do. X is watched
abbrev pub growing : EventGraph
growing = unfaulting x_watched [] (set 1 (plus_one 1) ∷ both_grow ∷ []) []

-- the model that is left of it: X grows
abbrev pub x_alone : EventGraph
x_alone = record growing {
  variables = clipped_one (codes "X") ∷ [];
  vertices =
      event (codes "RUN") (set 0 (plus_one 0) ∷ []) [] ∷
      takes (0 ∷ []) (event (codes "A") [] []) ∷
      [];
}

-- RUN takes Y, and carries it to itself and 3 to A, and cancels one that carries Y
abbrev pub two_carried : EventGraph
two_carried = unfaulting [] (1 ∷ []) [] (plain_edge Urgent 0 (Scalar 1 ∷ []) ∷ schedule_with 1 3 5 ∷ plain_edge CancelEqual 0 (Scalar 1 ∷ []) ∷ [])

-- the model that is left of it: A takes nothing, and nothing is carried to it
abbrev pub one_carried : EventGraph
one_carried = record two_carried {
  variables = clipped_one (codes "Y") ∷ [];
  vertices =
      takes (0 ∷ []) (event (codes "RUN") [] (plain_edge Urgent 0 (Scalar 0 ∷ []) ∷ schedule 1 (whole 5) ∷ plain_edge CancelEqual 0 (Scalar 0 ∷ []) ∷ [])) ∷
      event (codes "A") [] [] ∷
      [];
}
