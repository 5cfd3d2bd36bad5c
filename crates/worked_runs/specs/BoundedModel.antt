-- A model whose variables have ranges of many forms, for the bounds of its expressions.
use Rattle.std.specs.Prelude.{ℕ, ℤ, pos, neg_ℤ, true, false, List, [], ◌∷◌, codes}
use Rattle.model_core.specs.declared.bounds.Bounds.{Bounds}
use Rattle.model_core.specs.declared.model.Kind.TheVariants as kinds
use Rattle.model_core.specs.EventGraph.{EventGraph, Variable, Expression, Scalar, Binary, Subtract, Divide, Equal}
use Rattle.model_core.specs.Rules.BoundsTable.{number_bounds, truth_bounds}
use Rattle.model_core.specs.Rules.BoundsOf.{bounds_of}
use Rattle.worked_runs.specs.Building.{clipped, array, whole, minus}

abbrev pub bounded_by : List ℕ → ℤ → ℤ → Variable
bounded_by name lo hi = record { name = name; size = 0; kind = kinds.Range; lo = lo; hi = hi; clip = false; initial = lo }

abbrev pub truth_variable : List ℕ → Variable
truth_variable name = record { name = name; size = 0; kind = kinds.Truth; lo = pos 0; hi = pos 1; clip = false; initial = pos 0 }

-- The variables are X in 0..3, Y in -5..7, the truth value B, L in -2^62..2^62, the arrays A of 3 cells in -1..9 and F
-- of 2 truth values, and C in 0..9, clipped, by their places from 0. The table has the values 4, -2 and 9.
abbrev pub bounded : EventGraph
bounded = record {
  name = codes "BOUNDED";
  variables =
      bounded_by (codes "X") (pos 0) (pos 3) ∷
      bounded_by (codes "Y") (neg_ℤ (pos 5)) (pos 7) ∷
      truth_variable (codes "B") ∷
      bounded_by (codes "L") (neg_ℤ (pos 4611686018427387904)) (pos 4611686018427387904) ∷
      array 3 (bounded_by (codes "A") (neg_ℤ (pos 1)) (pos 9)) ∷
      array 2 (truth_variable (codes "F")) ∷
      clipped (bounded_by (codes "C") (pos 0) (pos 9)) ∷
      [];
  tables =
      record {
        name = codes "T";
        rows =
            record { value = pos 4; weight = 1 } ∷
            record { value = neg_ℤ (pos 2); weight = 1 } ∷
            record { value = pos 9; weight = 1 } ∷
            [];
      } ∷
      [];
  watch = [];
  vertices = [];
}

abbrev pub seen_bounds : Expression → Bounds
seen_bounds e = bounds_of bounded e

-- of numbers that come without a fault
abbrev pub numbers_in : ℤ → ℤ → Bounds
numbers_in lo hi = number_bounds lo hi true

-- of numbers that a fault may take the place of
abbrev pub perhaps_in : ℤ → ℤ → Bounds
perhaps_in lo hi = number_bounds lo hi false

abbrev pub either_truth : Bounds
either_truth = truth_bounds true true true

abbrev pub only_true : Bounds
only_true = truth_bounds false true true

abbrev pub only_false : Bounds
only_false = truth_bounds true false true

abbrev pub x : Expression
x = Scalar 0

abbrev pub y : Expression
y = Scalar 1

abbrev pub b : Expression
b = Scalar 2

abbrev pub l : Expression
l = Scalar 3

-- the least number of 64 bits
abbrev pub least_number : Expression
least_number = Binary Subtract (minus 9223372036854775807) (whole 1)

-- a truth value that X = 0 makes fault
abbrev pub over_x_is_1 : Expression
over_x_is_1 = Binary Equal (Binary Divide (whole 1) x) (whole 1)
