-- A model with each part of the language, and its canonical text.
use Rattle.std.specs.Prelude.{ℕ, pos, negsuc, true, false, List, [], ◌∷◌, ◌++◌, codes}
use Rattle.model_core.specs.declared.model.Kind.TheVariants as kinds
use Rattle.model_core.specs.EventGraph.{Operator, Equal, NotEqual, Below, AtMost, Above, AtLeast, Expression, Truth, Scalar, Not, Binary, Add, Subtract, Multiply, WatchedVariable, WatchedVertex, Uniform, ByTable, Set, Draw, EventEdge, EdgeKind, Fixed, Schedule, Urgent, CancelNext, CancelEqual, CancelAll, EventVertex, EventGraph}
use Rattle.model_core.specs.Text.Canonical.{expression_text}
use Rattle.worked_runs.specs.Building.{whole, at_variable, at_cell}

-- the expressions in the texts: `n` is the variable N, and `is_open` is OPEN
abbrev pub n : Expression
n = Scalar 0

abbrev pub is_open : Expression
is_open = Scalar 1

abbrev pub plus : Expression → Expression → Expression
plus a b = Binary Add a b

abbrev pub less : Expression → Expression → Expression
less a b = Binary Subtract a b

abbrev pub times : Expression → Expression → Expression
times a b = Binary Multiply a b

abbrev pub edge_when : EdgeKind → ℕ → List Expression → Expression → EventEdge
edge_when kind target values condition = record { target = target; values = values; condition = condition; kind = kind }

abbrev pub serve : EventVertex
serve = record {
  name = codes "SERVE";
  parameters = 0 ∷ 1 ∷ [];
  changes =
      Set (at_variable 0 ∷ at_cell 2 (plus n (whole 1)) ∷ []) (whole 12 ∷ n ∷ [])
      ∷ Draw (at_variable 0) 54 (Uniform (negsuc 0) (pos 6))
      ∷ Draw (at_cell 2 (whole 3)) 0 (ByTable 0) ∷ [];
  edges =
      edge_when (Schedule (Fixed (whole 0)) 5) 0 [] (Truth true)
      ∷ edge_when (Schedule (Fixed (whole 7)) 3) 1 (n ∷ Truth false ∷ []) (Not is_open)
      ∷ edge_when Urgent 0 [] (Truth false)
      ∷ edge_when CancelNext 1 [] (Truth true)
      ∷ edge_when CancelEqual 1 (n ∷ is_open ∷ []) (Truth true)
      ∷ edge_when CancelAll 0 [] is_open ∷ [];
}

abbrev pub come : EventVertex
come = record { name = codes "COME"; parameters = []; changes = []; edges = [] }

abbrev pub desk : EventGraph
desk = record {
  name = codes "DESK";
  variables =
      record { name = codes "N"; size = 0; kind = kinds.Range; lo = negsuc 2; hi = pos 7; clip = true; initial = negsuc 0 }
      ∷ record { name = codes "OPEN"; size = 0; kind = kinds.Truth; lo = pos 0; hi = pos 1; clip = false; initial = pos 1 }
      ∷ record { name = codes "CELLS"; size = 4; kind = kinds.Range; lo = pos 0; hi = pos 9; clip = false; initial = pos 0 } ∷ [];
  tables = record { name = codes "GAP"; rows = record { value = negsuc 0; weight = 2 } ∷ record { value = pos 30; weight = 1 } ∷ [] } ∷ [];
  watch = WatchedVariable 0 ∷ WatchedVertex 1 ∷ [];
  vertices = come ∷ serve ∷ [];
}

abbrev pub desk_text : List ℕ
desk_text =
    codes "model DESK;\n"
    ++ codes "var N : -3..7 clip = -1;\n"
    ++ codes "var OPEN : bool = true;\n"
    ++ codes "var CELLS[4] : 0..9 = 0;\n"
    ++ codes "table GAP { -1 : 2; 30 : 1; }\n"
    ++ codes "watch N, SERVE;\n"
    ++ codes "vertex COME {\n"
    ++ codes "}\n"
    ++ codes "vertex SERVE(N, OPEN) {\n"
    ++ codes "  set N, CELLS[N + 1] := 12, N;\n"
    ++ codes "  draw N from 54 in -1..6;\n"
    ++ codes "  draw CELLS[3] from 0 by GAP;\n"
    ++ codes "  schedule COME;\n"
    ++ codes "  schedule SERVE(N, false) after 7 priority 3 when not OPEN;\n"
    ++ codes "  urgent COME when false;\n"
    ++ codes "  cancel SERVE;\n"
    ++ codes "  cancel SERVE(N, OPEN);\n"
    ++ codes "  cancel all COME when OPEN;\n"
    ++ codes "}\n"
    ++ codes "end\n"

-- the text of an operator between an operand and the same once more
abbrev pub beside_itself : Expression → Operator → List ℕ
beside_itself a op = expression_text desk (Binary op a a)

-- the operators that compare
abbrev pub all_comparisons : List Operator
all_comparisons = Equal ∷ NotEqual ∷ Below ∷ AtMost ∷ Above ∷ AtLeast ∷ []
