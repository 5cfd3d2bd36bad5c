-- The models whose runs are worked out.
use Rattle.std.specs.Prelude.{ℕ, ℤ, pos, List, [], ◌∷◌, ◌++◌, codes}
use Rattle.model_core.specs.EventGraph.{EventGraph, Variable, Expression, Scalar, Binary, Add, Subtract, Set, StateChange, Draw, ByTable, CancelEqual, CancelAll, EventEdge, EventVertex, WatchedVariable, WatchedVertex, Fixed, Schedule}
use Rattle.model_core.specs.Run.State.{initial_state}
use Rattle.model_core.specs.Run.Value.{OrFault, value_of}
use Rattle.worked_runs.specs.Building.{ranged, clipped, array, whole, at_variable, at_cell, set, draw, plain_edge, schedule, schedule_with, urgent, only_if, event, takes, plus_one, minus_one, positive, one_over_zero}

-- N grows by 1 each 5 ticks
abbrev pub counting : Variable → EventGraph
counting n = record {
  name = codes "CLOCK";
  variables = n ∷ [];
  tables = [];
  watch = WatchedVariable 0 ∷ [];
  vertices =
      event (codes "RUN")
      (set 0 (plus_one 0) ∷ [])
      (schedule 0 (whole 5) ∷ []) ∷
      [];
}

-- N stays at most 3
abbrev pub clock : EventGraph
clock = counting (clipped (ranged (codes "N") 0 3 0))

-- N can't exceed 3
abbrev pub strict_clock : EventGraph
strict_clock = counting (ranged (codes "N") 0 3 0)

abbrev pub bank_run : EventVertex
bank_run = takes (1 ∷ []) (event (codes "RUN") [] (urgent 1 ∷ []))

abbrev pub bank_enter : EventVertex
bank_enter =
    event (codes "ENTER")
    (Set (at_variable 0 ∷ at_variable 3 ∷ []) (plus_one 0 ∷ plus_one 3 ∷ []) ∷ draw 2 54 1 6 ∷ [])
    (schedule 1 (Scalar 2) ∷ only_if (positive 1) (urgent 2) ∷ [])

abbrev pub bank_start : EventVertex
bank_start =
    event (codes "START")
    (Set (at_variable 0 ∷ at_variable 1 ∷ []) (minus_one 0 ∷ minus_one 1 ∷ []) ∷ [])
    (schedule 3 (whole 7) ∷ [])

abbrev pub bank_leave : EventVertex
bank_leave = event (codes "LEAVE") (set 1 (plus_one 1) ∷ []) (only_if (positive 0) (urgent 2) ∷ [])

-- A bank: customers enter after gaps of 1 to 6 ticks, and each idle teller serves one in 7 ticks. The variables are
-- QUEUE, IDLE, GAP and SEEN, and the vertices RUN, ENTER, START and LEAVE, by their places from 0.
abbrev pub bank : EventGraph
bank = record {
  name = codes "BANK";
  variables =
      ranged (codes "QUEUE") 0 1000000 0 ∷
      ranged (codes "IDLE") 0 2 0 ∷
      ranged (codes "GAP") 1 6 1 ∷
      clipped (ranged (codes "SEEN") 0 1000000 0) ∷
      [];
  tables = [];
  watch = WatchedVariable 0 ∷ WatchedVariable 1 ∷ [];
  vertices = bank_run ∷ bank_enter ∷ bank_start ∷ bank_leave ∷ [];
}

-- the changes and edges of a customer who enters a bank that doesn't count those it has seen
abbrev pub entering : List ℕ → EventVertex
entering name = event name (set 0 (plus_one 0) ∷ draw 2 54 1 6 ∷ []) (schedule 1 (Scalar 2) ∷ only_if (positive 1) (urgent 2) ∷ [])

-- the bank whose first event lets the first customer in, and which doesn't count those it has seen
abbrev pub smaller_bank : EventGraph
smaller_bank = record {
  name = codes "BANK";
  variables =
      ranged (codes "QUEUE") 0 1000000 0 ∷
      ranged (codes "IDLE") 0 2 0 ∷
      ranged (codes "GAP") 1 6 1 ∷
      [];
  tables = [];
  watch = WatchedVariable 0 ∷ WatchedVariable 1 ∷ [];
  vertices = takes (1 ∷ []) (entering (codes "RUN")) ∷ entering (codes "ENTER") ∷ bank_start ∷ bank_leave ∷ [];
}

-- A and B follow one another at clock 0 for ever
abbrev pub loop : EventGraph
loop = record {
  name = codes "LOOP";
  variables = [];
  tables = [];
  watch = [];
  vertices =
      event (codes "RUN") [] (urgent 1 ∷ []) ∷
      event (codes "A") [] (urgent 2 ∷ []) ∷
      event (codes "B") [] (urgent 1 ∷ []) ∷
      [];
}

-- one event that makes these changes of X, which is watched, and of Y
abbrev pub changing : List StateChange → EventGraph
changing changes = record {
  name = codes "CHANGES";
  variables = ranged (codes "X") 1 6 1 ∷ ranged (codes "Y") 1 6 1 ∷ [];
  tables = [];
  watch = WatchedVariable 0 ∷ [];
  vertices = event (codes "RUN") changes [] ∷ [];
}

-- Y and then X are drawn, Y from this stream
abbrev pub two_draws : ℕ → EventGraph
two_draws stream = changing (draw 1 stream 1 6 ∷ draw 0 54 1 6 ∷ [])

-- B(3) and B(4) at 5 and B(3) at 6, of which these edges cancel some
abbrev pub cut : List EventEdge → EventGraph
cut cancels = record {
  name = codes "CUT";
  variables = ranged (codes "X") 0 9 0 ∷ [];
  tables = [];
  watch = WatchedVariable 0 ∷ WatchedVertex 1 ∷ [];
  vertices =
      event (codes "RUN") []
      ((schedule_with 1 3 5 ∷ schedule_with 1 4 5 ∷ schedule_with 1 3 6 ∷ []) ++ cancels) ∷
      takes (0 ∷ []) (event (codes "B") [] []) ∷
      [];
}

-- the next event of the second vertex that carries 3 is cancelled
abbrev pub cancel_three : EventEdge
cancel_three = plain_edge CancelEqual 1 (whole 3 ∷ [])

-- B(1 / 0) after 0 - 1 ticks
abbrev pub late_and_bad : EventEdge
late_and_bad = plain_edge (Schedule (Fixed (Binary Subtract (whole 0) (whole 1))) 5) 1 (one_over_zero ∷ [])

-- 2^63 - 1 and 1
abbrev pub big_sum : Expression
big_sum = Binary Add (whole 9223372036854775807) (whole 1)

-- each B is cancelled
abbrev pub cancel_all : EventEdge
cancel_all = plain_edge CancelAll 1 []

-- one event with these edges to A and B, which are watched
abbrev pub ordering : List EventEdge → EventGraph
ordering edges = record {
  name = codes "ORDER";
  variables = [];
  tables = [];
  watch = WatchedVertex 1 ∷ WatchedVertex 2 ∷ [];
  vertices =
      event (codes "RUN") [] edges ∷
      event (codes "A") [] [] ∷
      event (codes "B") [] [] ∷
      [];
}

-- one event with these edges to A and B, which are watched and take X and Y
abbrev pub carrying : List EventEdge → EventGraph
carrying edges = record {
  name = codes "CARRY";
  variables = ranged (codes "X") 0 9 0 ∷ ranged (codes "Y") 0 9 0 ∷ [];
  tables = [];
  watch = WatchedVertex 1 ∷ WatchedVertex 2 ∷ [];
  vertices =
      event (codes "RUN") [] edges ∷
      takes (0 ∷ 1 ∷ []) (event (codes "A") [] []) ∷
      takes (0 ∷ 1 ∷ []) (event (codes "B") [] []) ∷
      [];
}

-- A comes at 2, makes these changes of X and of C, an array of three cells, and has these edges to B, which takes X.
-- X and B are watched
abbrev pub at_two : List StateChange → List EventEdge → EventGraph
at_two changes edges = record {
  name = codes "TWO";
  variables = ranged (codes "X") 0 9 0 ∷ array 3 (ranged (codes "C") 0 9 0) ∷ [];
  tables = [];
  watch = WatchedVariable 0 ∷ WatchedVertex 2 ∷ [];
  vertices =
      event (codes "RUN") [] (schedule 1 (whole 2) ∷ []) ∷
      event (codes "A") changes edges ∷
      takes (0 ∷ []) (event (codes "B") [] []) ∷
      [];
}

-- the edge waits below 0
abbrev pub backwards : EventGraph
backwards = record {
  name = codes "BACK";
  variables = [];
  tables = [];
  watch = [];
  vertices = event (codes "RUN") [] (schedule 0 (Binary Subtract (whole 0) (whole 1)) ∷ []) ∷ [];
}

-- one event that makes these changes of I and of A, an array of two cells. Both are watched
abbrev pub cells : List StateChange → EventGraph
cells changes = record {
  name = codes "CELLS";
  variables = ranged (codes "I") 0 9 0 ∷ array 2 (ranged (codes "A") 0 9 0) ∷ [];
  tables = [];
  watch = WatchedVariable 0 ∷ WatchedVariable 1 ∷ [];
  vertices = event (codes "RUN") changes [] ∷ [];
}

-- I := 1 beside A[I] := 7
abbrev pub index_and_cell : StateChange
index_and_cell = Set (at_variable 0 ∷ at_cell 1 (Scalar 0) ∷ []) (whole 1 ∷ whole 7 ∷ [])

-- A[2] := 1 / 0, where A has no cell 2
abbrev pub bad_index_and_value : StateChange
bad_index_and_value = Set (at_cell 1 (whole 2) ∷ []) (one_over_zero ∷ [])

-- A[one] := 1 beside A[other] := 2
abbrev pub bad_indexes : Expression → Expression → StateChange
bad_indexes one other = Set (at_cell 1 one ∷ at_cell 1 other ∷ []) (whole 1 ∷ whole 2 ∷ [])

-- the first event takes these two variables and has these edges to B. The second one is watched before the first, and B
-- after them
abbrev pub taking_two : Variable → Variable → List EventEdge → EventGraph
taking_two x y edges = record {
  name = codes "TAKES";
  variables = x ∷ y ∷ [];
  tables = [];
  watch = WatchedVariable 1 ∷ WatchedVariable 0 ∷ WatchedVertex 1 ∷ [];
  vertices = takes (0 ∷ 1 ∷ []) (event (codes "RUN") [] edges) ∷ takes (1 ∷ 0 ∷ []) (event (codes "B") [] []) ∷ [];
}

-- the first event takes X and makes a change of it
abbrev pub taking : Variable → StateChange → EventGraph
taking x change = record {
  name = codes "TAKES";
  variables = x ∷ [];
  tables = [];
  watch = WatchedVariable 0 ∷ [];
  vertices = takes (0 ∷ []) (event (codes "RUN") (change ∷ []) []) ∷ [];
}

-- X := X + X
abbrev pub doubling : Variable → EventGraph
doubling x = taking x (set 0 (Binary Add (Scalar 0) (Scalar 0)))

-- X := X - 9
abbrev pub lowering : Variable → EventGraph
lowering x = taking x (set 0 (Binary Subtract (Scalar 0) (whole 9)))

-- X and Y are drawn from a table that gives 1 and 2 each once and 3 twice
abbrev pub two_rows : EventGraph
two_rows = record {
  name = codes "ROWS";
  variables = ranged (codes "X") 1 6 1 ∷ ranged (codes "Y") 1 6 1 ∷ [];
  tables = record { name = codes "T"; rows = record { value = pos 1; weight = 1 } ∷ record { value = pos 2; weight = 1 } ∷ record { value = pos 3; weight = 2 } ∷ [] } ∷ [];
  watch = WatchedVariable 0 ∷ WatchedVariable 1 ∷ [];
  vertices = event (codes "RUN") (Draw (at_variable 0) 54 (ByTable 0) ∷ Draw (at_variable 1) 54 (ByTable 0) ∷ []) [] ∷ [];
}

-- the value of an expression at clock 7, beside a scalar I and an array A of two cells
abbrev pub of : Expression → OrFault ℤ
of e = value_of (cells []) (initial_state (cells [])) 7 e
