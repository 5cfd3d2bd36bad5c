-- Models in which one variable is needed, or a chain of them, and what slicing leaves of each form.
use Rattle.std.specs.Prelude.{ℕ, pos, false, List, [], ◌∷◌, map, codes}
use Rattle.model_core.specs.EventGraph.{EventGraph, Expression, Number, Truth, Clock, Scalar, Cell, Negative, Not, Binary, If, Add, Above, Uniform, ByTable, Set, Draw, StateChange, Drawn, Schedule, Urgent, CancelNext, CancelEqual, CancelAll, EdgeKind, EventEdge, Watched, WatchedVariable, WatchedVertex}
use Rattle.worked_runs.specs.Building.{ranged, clipped, array, whole, at_variable, at_cell, set, draw, plain_edge, schedule, event, takes}

-- ---- which are needed

-- U, V, W and X, of which none can be left by what is stored; RUN takes these, makes these changes, and has these edges to
-- GETS, which takes V
abbrev pub four_clipped : List Watched → List ℕ → List StateChange → List EventEdge → EventGraph
four_clipped watch parameters changes edges = record {
  name = codes "NEED";
  variables = map (λ letter. clipped (ranged (letter ∷ []) 0 9 0)) (codes "UVWX");
  tables = [];
  watch = watch;
  vertices = takes parameters (event (codes "RUN") changes edges) ∷ takes (1 ∷ []) (event (codes "GETS") [] []) ∷ [];
}

-- each takes the value of the next, the last first: U is watched
abbrev pub taken_over : List StateChange
taken_over = set 2 (Scalar 3) ∷ set 1 (Scalar 2) ∷ set 0 (Scalar 1) ∷ []

abbrev pub drawn_of : ℕ → ℕ → StateChange
drawn_of v stream = draw v stream 1 6

-- the edge to GETS carries this
abbrev pub giving_edge : EdgeKind → Expression → EventEdge
giving_edge kind e = plain_edge kind 1 (e ∷ [])

-- U in 0..9 doesn't clip, and the others do; the array B has 3 cells
abbrev pub one_strict : List StateChange → EventGraph
one_strict changes = record (four_clipped [] [] changes []) {
  variables = ranged (codes "U") 0 9 0 ∷ clipped (ranged (codes "V") 0 9 0) ∷ array 3 (clipped (ranged (codes "B") 0 9 0)) ∷ [];
}

-- ---- what is left

-- each form of expression, over the variables at these places
abbrev pub each_form : ℕ → ℕ → Expression
each_form v w =
    If (Binary Above (Scalar v) (Negative (Number (pos 3)))) (Binary Add (Cell w (Scalar v)) Clock) (If (Not (Truth false)) (Scalar w) (Scalar v))

-- of the variables at 0 to 3, A goes, which is at 1
abbrev pub before_slice : EventGraph
before_slice = record {
  name = codes "SLICE";
  variables = ranged (codes "O") 0 9 0 ∷ ranged (codes "A") 0 9 0 ∷ ranged (codes "C") 0 9 0 ∷ array 4 (ranged (codes "D") 0 9 0) ∷ [];
  tables = record { name = codes "T"; rows = record { value = pos 1; weight = 1 } ∷ [] } ∷ [];
  watch = WatchedVariable 2 ∷ WatchedVertex 2 ∷ WatchedVariable 0 ∷ [];
  vertices =
      takes (0 ∷ 1 ∷ 2 ∷ [])
      (event (codes "RUN")
      (Set (at_variable 1 ∷ at_variable 2 ∷ at_cell 3 (Scalar 2) ∷ at_variable 1 ∷ []) (whole 1 ∷ each_form 2 3 ∷ Scalar 0 ∷ whole 4 ∷ []) ∷
      set 1 (Scalar 2) ∷ set 2 (Scalar 0) ∷
      Draw (at_variable 1) 54 (Uniform (pos 1) (pos 6)) ∷ Draw (at_cell 3 (Scalar 2)) 53 (ByTable 0) ∷ [])
      (record (schedule 1 (Scalar 2)) { values = whole 7 ∷ Scalar 2 ∷ []; condition = each_form 2 3 } ∷
      plain_edge (Schedule (Drawn 52 (Uniform (pos 1) (pos 6))) 3) 0 (Scalar 0 ∷ whole 1 ∷ Scalar 2 ∷ []) ∷
      plain_edge Urgent 1 (whole 7 ∷ whole 8 ∷ []) ∷
      plain_edge CancelNext 1 [] ∷ plain_edge CancelEqual 1 (whole 7 ∷ Scalar 2 ∷ []) ∷ plain_edge CancelAll 1 [] ∷ [])) ∷
      takes (1 ∷ 2 ∷ []) (event (codes "GETS") (set 1 (whole 1) ∷ []) []) ∷
      event (codes "LAST") [] [] ∷
      [];
}

abbrev pub after_slice : EventGraph
after_slice = record {
  name = codes "SLICE";
  variables = ranged (codes "O") 0 9 0 ∷ ranged (codes "C") 0 9 0 ∷ array 4 (ranged (codes "D") 0 9 0) ∷ [];
  tables = record { name = codes "T"; rows = record { value = pos 1; weight = 1 } ∷ [] } ∷ [];
  watch = WatchedVariable 1 ∷ WatchedVertex 2 ∷ WatchedVariable 0 ∷ [];
  vertices =
      takes (0 ∷ 1 ∷ [])
      (event (codes "RUN")
      (Set (at_variable 1 ∷ at_cell 2 (Scalar 1) ∷ []) (each_form 1 2 ∷ Scalar 0 ∷ []) ∷
      set 1 (Scalar 0) ∷
      Draw (at_cell 2 (Scalar 1)) 53 (ByTable 0) ∷ [])
      (record (schedule 1 (Scalar 1)) { values = Scalar 1 ∷ []; condition = each_form 1 2 } ∷
      plain_edge (Schedule (Drawn 52 (Uniform (pos 1) (pos 6))) 3) 0 (Scalar 0 ∷ Scalar 1 ∷ []) ∷
      plain_edge Urgent 1 (whole 8 ∷ []) ∷
      plain_edge CancelNext 1 [] ∷ plain_edge CancelEqual 1 (Scalar 1 ∷ []) ∷ plain_edge CancelAll 1 [] ∷ [])) ∷
      takes (1 ∷ []) (event (codes "GETS") [] []) ∷
      event (codes "LAST") [] [] ∷
      [];
}
