-- Variables with other ranges in place of their declared ones, and a model that declares these.
use Rattle.std.specs.Prelude.{ℕ, ℤ, pos, ◌≤ℤ◌, List, [], ◌∷◌, slice_index_or}
use Rattle.model_core.specs.EventGraph.{EventGraph, Variable}
use Rattle.model_core.specs.declared.var_range.VarRange.{VarRange}

-- a number lies in the range
pub record LiesIn (r : VarRange) (x : ℤ) : Type 0 where
  pub low : r.lo ≤ℤ x
  pub high : x ≤ℤ r.hi

-- the range that a variable is declared with
abbrev pub declared_range : Variable → VarRange
declared_range v = record { lo = v.lo; hi = v.hi }

-- the variable with this range in its place
abbrev pub with_range : Variable → VarRange → Variable
with_range v r = record v { lo = r.lo; hi = r.hi }

-- each variable with the range at its place; one that has none stays
abbrev pub with_ranges : List Variable → List VarRange → List Variable
with_ranges [] ranges = []
with_ranges (v ∷ vs) [] = v ∷ vs
with_ranges (v ∷ vs) (r ∷ ranges) = with_range v r ∷ with_ranges vs ranges

-- the model with these ranges declared
abbrev pub model_with_ranges : EventGraph → List VarRange → EventGraph
model_with_ranges g ranges = record g { variables = with_ranges g.variables ranges }

-- the range of a number that names none
abbrev pub no_range : VarRange
no_range = record { lo = pos 0; hi = pos 0 }

-- the range of the variable at this place
abbrev pub range_at : List VarRange → ℕ → VarRange
range_at ranges v = slice_index_or ranges v no_range
