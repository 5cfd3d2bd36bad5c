-- Parts of models that differ from one another in one thing each.
use Rattle.std.specs.Prelude.{pos, neg_ℤ, true, false, List, [], ◌∷◌}
use Rattle.model_core.specs.EventGraph.{Operator, Expression, Number, Truth, Clock, Scalar, Cell, Negative, Not, Binary, If, Add, Subtract, Multiply, Divide, Remainder, Least, Greatest, Equal, NotEqual, Below, AtMost, Above, AtLeast, And, Or, Uniform, ByTable, Set, Draw, StateChange, Fixed, Drawn, Schedule, Urgent, CancelNext, CancelEqual, CancelAll, EventEdge}
use Rattle.worked_runs.specs.Building.{whole, at_variable, at_cell, plain_edge, only_if, positive}

abbrev pub operators : List Operator
operators = Add ∷ Subtract ∷ Multiply ∷ Divide ∷ Remainder ∷ Least ∷ Greatest ∷ Equal ∷ NotEqual ∷ Below ∷ AtMost ∷ Above ∷ AtLeast ∷ And ∷ Or ∷ []

-- each form of expression, and for each part of it one that differs there
abbrev pub expressions_apart : List Expression
expressions_apart =
    Number (pos 7) ∷ Number (pos 8) ∷ Number (neg_ℤ (pos 7)) ∷
    Truth true ∷ Truth false ∷
    Clock ∷
    Scalar 7 ∷ Scalar 8 ∷
    Cell 7 (Scalar 7) ∷ Cell 8 (Scalar 7) ∷ Cell 7 (Scalar 8) ∷
    Negative (Scalar 7) ∷ Negative (Scalar 8) ∷
    Not (Scalar 7) ∷ Not (Scalar 8) ∷
    Binary Add (Scalar 7) (Scalar 7) ∷ Binary Subtract (Scalar 7) (Scalar 7) ∷ Binary Add (Scalar 8) (Scalar 7) ∷ Binary Add (Scalar 7) (Scalar 8) ∷
    If (Scalar 7) (Scalar 7) (Scalar 7) ∷ If (Scalar 8) (Scalar 7) (Scalar 7) ∷ If (Scalar 7) (Scalar 8) (Scalar 7) ∷ If (Scalar 7) (Scalar 7) (Scalar 8) ∷
    []

-- a `set` and a draw, and for each part of them one that differs there
abbrev pub changes_apart : List StateChange
changes_apart =
    Set (at_variable 1 ∷ at_cell 2 (whole 3) ∷ []) (whole 4 ∷ whole 5 ∷ []) ∷
    Set (at_variable 0 ∷ at_cell 2 (whole 3) ∷ []) (whole 4 ∷ whole 5 ∷ []) ∷
    Set (at_variable 1 ∷ at_cell 3 (whole 3) ∷ []) (whole 4 ∷ whole 5 ∷ []) ∷
    Set (at_variable 1 ∷ at_cell 2 (whole 4) ∷ []) (whole 4 ∷ whole 5 ∷ []) ∷
    Set (at_variable 1 ∷ at_variable 2 ∷ []) (whole 4 ∷ whole 5 ∷ []) ∷
    Set (at_variable 1 ∷ at_cell 2 (whole 3) ∷ []) (whole 4 ∷ whole 6 ∷ []) ∷
    Set (at_variable 1 ∷ []) (whole 4 ∷ []) ∷
    Draw (at_variable 1) 54 (Uniform (pos 1) (pos 6)) ∷
    Draw (at_variable 2) 54 (Uniform (pos 1) (pos 6)) ∷
    Draw (at_cell 1 (whole 0)) 54 (Uniform (pos 1) (pos 6)) ∷
    Draw (at_variable 1) 53 (Uniform (pos 1) (pos 6)) ∷
    Draw (at_variable 1) 54 (Uniform (pos 2) (pos 6)) ∷
    Draw (at_variable 1) 54 (Uniform (pos 1) (pos 7)) ∷
    Draw (at_variable 1) 54 (ByTable 0) ∷
    Draw (at_variable 1) 54 (ByTable 1) ∷
    []

-- edges of each kind, and for each part of one that schedules one that differs there
abbrev pub edges_apart : List EventEdge
edges_apart =
    plain_edge (Schedule (Fixed (whole 2)) 5) 3 (whole 1 ∷ []) ∷
    plain_edge (Schedule (Fixed (whole 2)) 5) 4 (whole 1 ∷ []) ∷
    plain_edge (Schedule (Fixed (whole 2)) 5) 3 (whole 2 ∷ []) ∷
    plain_edge (Schedule (Fixed (whole 2)) 5) 3 [] ∷
    only_if (positive 0) (plain_edge (Schedule (Fixed (whole 2)) 5) 3 (whole 1 ∷ [])) ∷
    plain_edge (Schedule (Fixed (whole 3)) 5) 3 (whole 1 ∷ []) ∷
    plain_edge (Schedule (Fixed (whole 2)) 6) 3 (whole 1 ∷ []) ∷
    plain_edge (Schedule (Drawn 54 (Uniform (pos 1) (pos 6))) 5) 3 (whole 1 ∷ []) ∷
    plain_edge (Schedule (Drawn 53 (Uniform (pos 1) (pos 6))) 5) 3 (whole 1 ∷ []) ∷
    plain_edge (Schedule (Drawn 54 (Uniform (pos 1) (pos 7))) 5) 3 (whole 1 ∷ []) ∷
    plain_edge Urgent 3 (whole 1 ∷ []) ∷
    plain_edge CancelNext 3 (whole 1 ∷ []) ∷
    plain_edge CancelEqual 3 (whole 1 ∷ []) ∷
    plain_edge CancelAll 3 (whole 1 ∷ []) ∷
    []
