-- A model in which each variable is used in one way, and the parts of it that use them.
use Rattle.std.specs.Prelude.{ℕ, pos, true, List, [], ◌∷◌, ◌++◌, map, codes}
use Rattle.model_core.specs.EventGraph.{EventGraph, Expression, Number, Truth, Clock, Scalar, Cell, Negative, Not, Binary, If, Add, Uniform, ByTable, Set, Draw, Fixed, Drawn, Schedule, Urgent, CancelEqual, CancelAll, EventEdge, EventVertex, WatchedVariable, WatchedVertex}
use Rattle.worked_runs.specs.Building.{ranged, array, whole, at_variable, at_cell, set, draw, plain_edge, urgent, only_if, event, takes, positive}

-- each form of expression, which reads variables in each of its parts
abbrev pub expressions : List Expression
expressions =
    Number (pos 7) ∷ Truth true ∷ Clock ∷ Scalar 5 ∷ Cell 6 (Scalar 5) ∷ Negative (Scalar 5) ∷ Not (Scalar 5) ∷ Binary Add (Scalar 5) (Scalar 4) ∷
    If (Scalar 5) (Scalar 4) (Scalar 3) ∷ Binary Add (Scalar 5) (Scalar 5) ∷ []

-- ---- the model, whose variables are A to T, of which R is an array of cells

abbrev pub after_delay : Expression → EventEdge
after_delay delay = plain_edge (Schedule (Fixed delay) 5) 0 []

abbrev pub after_stream : ℕ → EventEdge
after_stream stream = plain_edge (Schedule (Drawn stream (Uniform (pos 1) (pos 6))) 5) 0 []

abbrev pub users_in_turn : List EventVertex
users_in_turn =
    takes (0 ∷ []) (event (codes "RUN") [] []) ∷
    event (codes "SETS") (set 1 (Scalar 2) ∷ []) [] ∷
    event (codes "CELLS") (Set (at_cell 17 (Scalar 3) ∷ []) (Scalar 4 ∷ []) ∷ []) [] ∷
    event (codes "DRAWS") (draw 5 54 1 6 ∷ []) [] ∷
    event (codes "PICKS") (Draw (at_cell 17 (Scalar 6)) 53 (ByTable 0) ∷ []) [] ∷
    event (codes "WHEN") [] (only_if (positive 7) (urgent 0) ∷ []) ∷
    event (codes "AFTER") [] (after_delay (Scalar 8) ∷ []) ∷
    event (codes "WITH") [] (plain_edge Urgent 0 (whole 1 ∷ Scalar 9 ∷ []) ∷ []) ∷
    event (codes "CUTS") [] (only_if (positive 10) (plain_edge CancelEqual 0 (Scalar 11 ∷ [])) ∷ []) ∷
    event (codes "CLEARS") [] (only_if (positive 12) (plain_edge CancelAll 0 []) ∷ []) ∷
    event (codes "WAITS") [] (after_stream 52 ∷ after_stream 51 ∷ []) ∷
    event (codes "SWAPS") (Set (at_variable 13 ∷ at_variable 14 ∷ []) (Scalar 14 ∷ Scalar 13 ∷ []) ∷ set 13 (Scalar 15) ∷ []) [] ∷
    event (codes "LOOKS") (set 16 (Cell 17 (whole 1)) ∷ []) (urgent 0 ∷ after_delay (Scalar 18) ∷ []) ∷
    []

-- The variable A, the first, and the vertex SETS, the second, are watched, and then S.
abbrev pub using : EventGraph
using = record {
  name = codes "USES";
  variables = map (λ letter. ranged (letter ∷ []) 0 9 0) (codes "ABCDEFGHIJKLMNOPQ") ++ array 4 (ranged (codes "R") 0 9 0) ∷ ranged (codes "S") 0 9 0 ∷ ranged (codes "T") 0 9 0 ∷ [];
  tables = [];
  watch = WatchedVariable 0 ∷ WatchedVertex 1 ∷ WatchedVariable 18 ∷ [];
  vertices = users_in_turn;
}
