-- A model with each form of sentence.
use Rattle.std.specs.Prelude.{ℕ, pos, negsuc, true, false, List, [], ◌∷◌, ◌++◌, codes}
use Rattle.model_core.specs.EventGraph.{EventGraph, Expression, Truth, Clock, Scalar, Cell, Not, Binary, Add, Below, Or, Set, Draw, Uniform, ByTable, Fixed, Drawn, Schedule, Urgent, CancelNext, CancelEqual, CancelAll, EventVertex, Variable, WatchedVariable, WatchedVertex}
use Rattle.worked_runs.specs.Building.{array, clipped, whole, minus, at_variable, at_cell, event, takes}
use Rattle.worked_runs.specs.BoundedModel.{bounded_by, truth_variable}
use Rattle.worked_runs.specs.Texts.{edge_when}

-- a truth value that begins true
abbrev pub true_at_first : Variable → Variable
true_at_first v = record v { initial = pos 1 }

-- OPEN, QUEUE of three cells, ONE of one cell, SIZE, SHUT
abbrev pub office_variables : List Variable
office_variables =
    true_at_first (truth_variable (codes "OPEN"))
    ∷ clipped (array 3 (bounded_by (codes "QUEUE") (negsuc 1) (pos 9)))
    ∷ array 1 (bounded_by (codes "ONE") (pos 0) (pos 5))
    ∷ record (bounded_by (codes "SIZE") (negsuc 6) (pos 6)) { initial = pos 2 }
    ∷ truth_variable (codes "SHUT") ∷ []

abbrev pub door_is_open : Expression
door_is_open = Scalar 0

abbrev pub room_size : Expression
room_size = Scalar 3

-- its edges come in an order of their own, and to all three events
abbrev pub enter : EventVertex
enter = record {
  name = codes "ENTER";
  parameters = 3 ∷ 0 ∷ [];
  changes =
      Set (at_cell 1 (whole 0) ∷ at_variable 3 ∷ at_variable 0 ∷ []) (Binary Add room_size (whole 1) ∷ minus 2 ∷ Not door_is_open ∷ [])
      ∷ Draw (at_variable 3) 54 (Uniform (negsuc 0) (pos 6))
      ∷ Draw (at_cell 1 (Binary Add room_size (whole 1))) 7 (ByTable 1)
      ∷ Set (at_variable 3 ∷ []) (Clock ∷ []) ∷ [];
  edges =
      edge_when (Schedule (Fixed (whole 0)) 3) 0 (whole 1 ∷ Not door_is_open ∷ []) (Binary Or (Binary Below (Cell 1 (whole 2)) (minus 1)) door_is_open)
      ∷ edge_when (Schedule (Fixed (Binary Add room_size (whole 2))) 5) 1 [] (Truth true)
      ∷ edge_when (Schedule (Drawn 54 (Uniform (pos 1) (pos 6))) 5) 0 (room_size ∷ Truth true ∷ []) (Truth false)
      ∷ edge_when (Schedule (Drawn 7 (ByTable 0)) 9) 2 (whole 4 ∷ []) (Truth true)
      ∷ edge_when (Schedule (Drawn 0 (ByTable 1)) 255) 1 [] door_is_open
      ∷ edge_when Urgent 0 (room_size ∷ Truth true ∷ []) (Truth true)
      ∷ edge_when Urgent 1 [] (Not door_is_open) ∷ [];
}

abbrev pub leaving : EventVertex
leaving = record {
  name = codes "LEAVE";
  parameters = [];
  changes = [];
  edges =
      edge_when CancelNext 0 [] (Truth true)
      ∷ edge_when CancelNext 1 [] door_is_open
      ∷ edge_when CancelEqual 0 (whole 1 ∷ door_is_open ∷ []) door_is_open
      ∷ edge_when CancelEqual 2 (room_size ∷ []) (Truth true)
      ∷ edge_when CancelAll 1 [] (Truth true)
      ∷ edge_when CancelAll 2 [] (Truth false) ∷ [];
}

abbrev pub office : EventGraph
office = record {
  name = codes "OFFICE";
  variables = office_variables;
  tables =
      record { name = codes "LOAD"; rows = record { value = negsuc 0; weight = 3 } ∷ record { value = pos 6; weight = 1 } ∷ [] }
      ∷ record { name = codes "GAP"; rows = record { value = pos 2; weight = 5 } ∷ [] } ∷ [];
  watch = WatchedVariable 3 ∷ WatchedVertex 2 ∷ WatchedVariable 1 ∷ [];
  vertices = enter ∷ leaving ∷ takes (3 ∷ []) (event (codes "CLOSE") [] []) ∷ [];
}

abbrev pub declared_sentences : List ℕ
declared_sentences =
    codes "This is the model OFFICE.\n"
    ++ codes "The variable OPEN is a truth value and starts at true.\n"
    ++ codes "The array QUEUE of 3 cells is a whole number from -2 to 9, kept within these bounds, and starts at -2.\n"
    ++ codes "The array ONE of 1 cells is a whole number from 0 to 5 and starts at 0.\n"
    ++ codes "The variable SIZE is a whole number from -7 to 6 and starts at 2.\n"
    ++ codes "The variable SHUT is a truth value and starts at false.\n"
    ++ codes "The table LOAD gives -1 with weight 3, 6 with weight 1.\n"
    ++ codes "The table GAP gives 2 with weight 5.\n"
    ++ codes "Watched are SIZE, CLOSE, QUEUE.\n"
    ++ codes "The first event is ENTER.\n"

abbrev pub enter_sentences : List ℕ
enter_sentences =
    codes "Event ENTER takes SIZE, OPEN.\n"
    ++ codes "When ENTER occurs, QUEUE[0] becomes SIZE + 1 and SIZE becomes -2 and OPEN becomes not OPEN.\n"
    ++ codes "When ENTER occurs, SIZE is drawn from stream 54 between -1 and 6.\n"
    ++ codes "When ENTER occurs, QUEUE[SIZE + 1] is drawn from stream 7 by the table GAP.\n"
    ++ codes "When ENTER occurs, SIZE becomes clk.\n"
    ++ codes "After ENTER, if QUEUE[2] < -1 or OPEN, event ENTER is scheduled after 0 ticks with priority 3, carrying 1, not OPEN.\n"
    ++ codes "After ENTER, event LEAVE is scheduled after SIZE + 2 ticks with priority 5.\n"
    ++ codes "After ENTER, if false, event ENTER is scheduled after a delay drawn from stream 54 between 1 and 6 with priority 5, carrying SIZE, true.\n"
    ++ codes "After ENTER, event CLOSE is scheduled after a delay drawn from stream 7 by the table LOAD with priority 9, carrying 4.\n"
    ++ codes "After ENTER, if OPEN, event LEAVE is scheduled after a delay drawn from stream 0 by the table GAP with priority 255.\n"
    ++ codes "After ENTER, event ENTER follows at once, carrying SIZE, true.\n"
    ++ codes "After ENTER, if not OPEN, event LEAVE follows at once.\n"

abbrev pub leave_sentences : List ℕ
leave_sentences =
    codes "Event LEAVE takes no values.\n"
    ++ codes "After LEAVE, the next pending ENTER is cancelled.\n"
    ++ codes "After LEAVE, if OPEN, the next pending LEAVE is cancelled.\n"
    ++ codes "After LEAVE, if OPEN, the next pending ENTER carrying 1, OPEN is cancelled.\n"
    ++ codes "After LEAVE, the next pending CLOSE carrying SIZE is cancelled.\n"
    ++ codes "After LEAVE, every pending LEAVE is cancelled.\n"
    ++ codes "After LEAVE, if false, every pending CLOSE is cancelled.\n"
    ++ codes "Event CLOSE takes SIZE.\n"
