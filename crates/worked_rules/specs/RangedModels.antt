-- Models whose variables have ranges, for what conditions leave of them and what variables take.
use Rattle.std.specs.Prelude.{ℕ, ℤ, pos, neg_ℤ, Bool, true, false, List, [], ◌∷◌, map, codes, replicate}
use Rattle.model_core.specs.declared.bounds.Bounds.{Bounds}
use Rattle.model_core.specs.declared.incoming.Incoming.{Incoming}
use Rattle.model_core.specs.declared.var_range.VarRange.{VarRange}
use Rattle.model_core.specs.EventGraph.{EventGraph, Variable, Expression, Scalar, Cell, Clock, Truth, Binary, Operator, If, Add, Divide, Equal, Above, Below, And, Or, Set, Draw, ByTable, Urgent, CancelNext, CancelEqual, CancelAll, EdgeKind, EventEdge}
use Rattle.model_core.specs.Rules.BoundsTable.{number_bounds}
use Rattle.model_core.specs.Rules.BoundsOf.{ranged_at}
use Rattle.model_core.specs.Ranges.OtherRanges.{declared_range}
use Rattle.model_core.specs.Ranges.Refined.{refined}
use Rattle.worked_runs.specs.Building.{clipped, array, whole, at_variable, at_cell, set, draw, plain_edge, schedule, urgent, only_if, event, takes, plus_one, minus_one}
use Rattle.worked_runs.specs.BoundedModel.{bounded_by, truth_variable}
use Rattle.worked_runs.specs.NarrowModel.{range}

-- two numbers at or above 0
abbrev pub span : ℕ → ℕ → VarRange
span lo hi = range (pos lo) (pos hi)

abbrev pub comparison : Operator → ℕ → Expression → Expression
comparison op v e = Binary op (Scalar v) e

-- ---- X in 0..9, Y in -5..7, the truth value B, the array A of 3 cells in 0..9, and K, which is 4

abbrev pub five_kinds : List Variable
five_kinds =
    bounded_by (codes "X") (pos 0) (pos 9) ∷
    bounded_by (codes "Y") (neg_ℤ (pos 5)) (pos 7) ∷
    truth_variable (codes "B") ∷
    array 3 (bounded_by (codes "A") (pos 0) (pos 9)) ∷
    bounded_by (codes "K") (pos 4) (pos 4) ∷
    []

abbrev pub declared_ones : List VarRange
declared_ones = map declared_range five_kinds

-- all ranges that are left where the condition is this
abbrev pub left_where : Bool → Expression → List VarRange
left_where b e = map declared_range (refined e b five_kinds)

-- that of a variable alone
abbrev pub left_at : ℕ → Bool → Expression → VarRange
left_at v b e = declared_range (ranged_at (refined e b five_kinds) v)

-- ---- a model of them, for bounds under guards

abbrev pub guarded : EventGraph
guarded = record { name = codes "GUARDS"; variables = five_kinds; tables = []; watch = []; vertices = event (codes "RUN") [] [] ∷ [] }

abbrev pub ten_over_x : Expression
ten_over_x = Binary Divide (whole 10) (Scalar 0)

abbrev pub equals_one : Expression → Expression
equals_one e = Binary Equal e (whole 1)

abbrev pub above_zero : Expression
above_zero = Binary Above (Scalar 0) (whole 0)

abbrev pub equals_zero : Expression
equals_zero = Binary Equal (Scalar 0) (whole 0)

-- ---- what variables take

-- GETS takes these as P and Q
abbrev pub to_gets : EdgeKind → Expression → Expression → EventEdge
to_gets kind p q = plain_edge kind 1 (p ∷ q ∷ [])

-- N in 0..9, M in -5..7, the array A of 3 cells, and P and Q in 0..9, which GETS takes; the table has -2 and 9
abbrev pub fed : EventGraph
fed = record {
  name = codes "FED";
  variables =
      bounded_by (codes "N") (pos 0) (pos 9) ∷
      bounded_by (codes "M") (neg_ℤ (pos 5)) (pos 7) ∷
      array 3 (bounded_by (codes "A") (pos 0) (pos 9)) ∷
      bounded_by (codes "P") (pos 0) (pos 9) ∷
      bounded_by (codes "Q") (pos 0) (pos 9) ∷
      [];
  tables = record { name = codes "T"; rows = record { value = pos 9; weight = 1 } ∷ record { value = neg_ℤ (pos 2); weight = 1 } ∷ [] } ∷ [];
  watch = [];
  vertices =
      event (codes "RUN")
      (Set (at_variable 0 ∷ at_variable 1 ∷ []) (plus_one 0 ∷ Scalar 1 ∷ []) ∷
      set 0 (If (Binary Below (Scalar 0) (whole 5)) (Scalar 0) (whole 2)) ∷
      Set (at_cell 2 (whole 0) ∷ []) (whole 7 ∷ []) ∷
      draw 0 54 2 5 ∷
      Draw (at_cell 2 (whole 1)) 54 (ByTable 0) ∷ [])
      (only_if (Binary Below (Scalar 0) (whole 5)) (to_gets Urgent (Scalar 0) (Scalar 1)) ∷
      record (schedule 1 (whole 1)) { values = whole 1 ∷ whole 2 ∷ [] } ∷
      only_if (Binary Above (Scalar 0) (whole 9)) (to_gets Urgent (whole 3) (whole 3)) ∷
      only_if (equals_one ten_over_x) (to_gets Urgent (whole 8) (Scalar 0)) ∷
      to_gets CancelNext (whole 4) (whole 4) ∷ to_gets CancelEqual (whole 4) (whole 4) ∷ to_gets CancelAll (whole 4) (whole 4) ∷ []) ∷
      takes (3 ∷ 4 ∷ []) (event (codes "GETS") (set 1 Clock ∷ []) (urgent 0 ∷ [])) ∷
      [];
}

-- N and M alone, with their ranges
abbrev pub n_and_m : List Variable
n_and_m = bounded_by (codes "N") (pos 0) (pos 9) ∷ bounded_by (codes "M") (neg_ℤ (pos 5)) (pos 7) ∷ []

-- the variable takes what lies between these
abbrev pub takes_in : ℕ → ℤ → ℤ → Incoming
takes_in v lo hi = record { variable = v; bounds = number_bounds lo hi true }

-- bounds inside 0..9, below it with an end inside, at its end and beyond, above it likewise, and on both sides
abbrev pub bounds_between : List Bounds
bounds_between =
    number_bounds (pos 3) (pos 5) true ∷
    number_bounds (neg_ℤ (pos 5)) (pos 4) true ∷ number_bounds (neg_ℤ (pos 5)) (pos 0) true ∷ number_bounds (neg_ℤ (pos 5)) (neg_ℤ (pos 1)) true ∷
    number_bounds (pos 4) (pos 20) true ∷ number_bounds (pos 9) (pos 20) true ∷ number_bounds (pos 10) (pos 20) true ∷
    number_bounds (neg_ℤ (pos 5)) (pos 20) false ∷
    []

-- ---- a model in which each variable needs a range for another reason

-- from lo to hi, and begins as this
abbrev pub beginning_as : List ℕ → ℤ → ℤ → ℤ → Variable
beginning_as name lo hi initial = record (bounded_by name lo hi) { initial = initial }

abbrev pub needing_all : EventGraph
needing_all = record {
  name = codes "NEED";
  variables =
      beginning_as (codes "S") (pos 0) (pos 50) (pos 1) ∷
      truth_variable (codes "B") ∷
      array 2 (truth_variable (codes "F")) ∷
      array 3 (beginning_as (codes "A") (pos 0) (pos 50) (pos 4)) ∷
      beginning_as (codes "G") (pos 0) (pos 50) (pos 0) ∷
      beginning_as (codes "P") (pos 0) (pos 50) (pos 2) ∷
      beginning_as (codes "D") (neg_ℤ (pos 50)) (pos 50) (pos 0) ∷
      beginning_as (codes "U") (pos 0) (pos 50) (pos 0) ∷
      clipped (beginning_as (codes "C") (pos 0) (pos 5) (pos 3)) ∷
      beginning_as (codes "O") (pos 0) (pos 5) (pos 3) ∷
      [];
  tables = [];
  watch = [];
  vertices =
      takes (0 ∷ [])
      (event (codes "RUN")
      (set 1 (Truth false) ∷
      Set (at_cell 3 (whole 0) ∷ []) (whole 7 ∷ []) ∷
      set 4 (If (Binary Or (comparison Equal 4 (whole 5)) (comparison Above 4 (whole 7))) (whole 0) (plus_one 4)) ∷
      set 6 (minus_one 6) ∷
      set 7 (plus_one 7) ∷
      set 8 (whole 9) ∷
      set 9 (whole 9) ∷ [])
      (only_if (comparison Above 5 (whole 3)) (plain_edge Urgent 1 (whole 40 ∷ [])) ∷
      plain_edge CancelEqual 1 (whole 30 ∷ []) ∷
      only_if (Binary And (comparison Above 4 (whole 2)) (comparison Below 4 (whole 4))) (plain_edge Urgent 1 (Scalar 4 ∷ [])) ∷ [])) ∷
      takes (5 ∷ []) (event (codes "GETS") [] []) ∷
      [];
}

-- S, B and F stay; A is 4 or 7; G turns at 5; P is 2 or 3; D is from this down, U from 0 up to this; C is cut to 5; O takes
-- nothing that it keeps
abbrev pub ranges_of_all : ℤ → ℕ → ℕ → List VarRange
ranges_of_all down up turn = span 0 50 ∷ span 0 1 ∷ span 0 1 ∷ span 4 7 ∷ span 0 turn ∷ span 2 3 ∷ range down (pos 0) ∷ span 0 up ∷ span 3 5 ∷ span 3 3 ∷ []

-- ---- a cell that grows

-- the first cell of an array in 0..50 grows by 1, and the second stays 0
abbrev pub growing_cell : EventGraph
growing_cell = record {
  name = codes "CELLS";
  variables = array 2 (beginning_as (codes "A") (pos 0) (pos 50) (pos 0)) ∷ [];
  tables = [];
  watch = [];
  vertices = event (codes "RUN") (Set (at_cell 0 (whole 0) ∷ []) (Binary Add (Cell 0 (whole 0)) (whole 1) ∷ []) ∷ []) [] ∷ [];
}

-- ---- a model with a variable for each half of what ranges are checked for

-- RUN takes S, N is 2 to 5, and nothing sets M
abbrev pub checked_model : EventGraph
checked_model = record {
  name = codes "CHECKED";
  variables = beginning_as (codes "S") (pos 0) (pos 9) (pos 1) ∷ beginning_as (codes "N") (pos 0) (pos 9) (pos 3) ∷ beginning_as (codes "M") (pos 0) (pos 9) (pos 3) ∷ [];
  tables = [];
  watch = [];
  vertices =
      takes (0 ∷ []) (event (codes "RUN") (set 1 (If (Binary Below (Scalar 1) (whole 5)) (plus_one 1) (whole 2)) ∷ []) []) ∷
      [];
}

-- the ranges of its three variables, of which the first is the declared one
abbrev pub with_two : VarRange → VarRange → List VarRange
with_two n m = span 0 9 ∷ n ∷ m ∷ []

-- the model under a name of so many bytes
abbrev pub long_checked : ℕ → EventGraph
long_checked bytes = record checked_model { name = replicate bytes 78 }
