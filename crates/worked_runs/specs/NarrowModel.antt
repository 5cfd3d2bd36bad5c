-- A model whose variables need less than is declared, or as much: a counter that turns at 5, a constant, and a counter that
-- grows without end into its clip.
use Rattle.std.specs.Prelude.{ℤ, pos, neg_ℤ, List, [], ◌∷◌, codes}
use Rattle.model_core.specs.declared.var_range.VarRange.{VarRange}
use Rattle.model_core.specs.EventGraph.{EventGraph, Variable, Scalar, Binary, If, Below}
use Rattle.worked_runs.specs.Building.{ranged, clipped, whole, set, schedule, event, plus_one, x_watched}

-- the constant, which is declared from -50 to 50
abbrev pub unchanging : Variable
unchanging = record (ranged (codes "M") 0 50 3) { lo = neg_ℤ (pos 50) }

abbrev pub turning : EventGraph
turning = record {
  name = codes "NARROW";
  variables = ranged (codes "N") 0 1000 0 ∷ unchanging ∷ clipped (ranged (codes "K") 0 1000000 0) ∷ [];
  tables = [];
  watch = x_watched;
  vertices =
      event (codes "RUN")
      (set 0 (If (Binary Below (Scalar 0) (whole 5)) (plus_one 0) (whole 0)) ∷ set 2 (plus_one 2) ∷ [])
      (schedule 0 (whole 2) ∷ []) ∷
      [];
}

abbrev pub range : ℤ → ℤ → VarRange
range lo hi = record { lo = lo; hi = hi }

-- the ranges of its three variables
abbrev pub of_three : VarRange → VarRange → VarRange → List VarRange
of_three n m k = n ∷ m ∷ k ∷ []
