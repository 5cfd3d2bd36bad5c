-- Ranges that no run of a model leaves: they hold what each variable begins with, and all that it takes under them.
use Rattle.std.specs.Prelude.{◌≡◌, ℕ, ◌<◌, ◌≤ℤ◌, ◌==◌, Bool, true, ◌||◌, List, length, IfSome}
use Rattle.std.specs.List.{AllByRecursion, list_any}
use Rattle.model_core.specs.EventGraph.{EventGraph}
use Rattle.model_core.specs.Run.State.{variable_at}
use Rattle.model_core.specs.Run.Step.{vertex_at}
use Rattle.model_core.specs.Rules.BoundsOfParts.{is_truth_kind}
use Rattle.model_core.specs.declared.incoming.Incoming.{Incoming}
use Rattle.model_core.specs.declared.var_range.VarRange.{VarRange}
use Rattle.model_core.specs.Ranges.OtherRanges.{LiesIn, declared_range, range_at}
use Rattle.model_core.specs.Ranges.Incoming.{incoming, kept_range}

-- a variable whose range stays: it holds truth values, or takes a starting value
abbrev pub is_fixed : EventGraph → ℕ → Bool
is_fixed g v = is_truth_kind (variable_at g v).kind || list_any (λ p. p == v) (vertex_at g 0).parameters

-- the second range lies in the first
pub record Encloses (outer inner : VarRange) : Type 0 where
  pub low : outer.lo ≤ℤ inner.lo
  pub high : inner.hi ≤ℤ outer.hi

-- a range that the variable at this place may have in place of its declared one
pub record FitsVariable (g : EventGraph) (v : ℕ) (r : VarRange) : Type 0 where
  pub ordered : r.lo ≤ℤ r.hi
  pub inside : Encloses (declared_range (variable_at g v)) r
  pub fixed : is_fixed g v ≡ true → r ≡ declared_range (variable_at g v)

-- there is a range for each variable that fits it
pub record Fitting (g : EventGraph) (ranges : List VarRange) : Type 0 where
  pub as_many : length ranges ≡ length g.variables
  pub each : (v : ℕ) → v < length g.variables → FitsVariable g v (range_at ranges v)

-- what a variable keeps of what it takes lies in its range
abbrev pub HoldsIncoming : EventGraph → List VarRange → Incoming → Type 0
HoldsIncoming g ranges i = IfSome (kept_range (variable_at g i.variable) i.bounds) (Encloses (range_at ranges i.variable))

-- each range holds what its variable begins with, and all that it keeps of what it takes
pub record Inductive (g : EventGraph) (ranges : List VarRange) : Type 0 where
  pub begins : (v : ℕ) → v < length g.variables → LiesIn (range_at ranges v) (variable_at g v).initial
  pub takes : AllByRecursion (HoldsIncoming g ranges) (incoming g ranges)

-- what the variable at this place begins with, and all that it keeps of what it takes, lies in its range
pub record Suffices (g : EventGraph) (ranges : List VarRange) (v : ℕ) : Type 0 where
  pub begins : LiesIn (range_at ranges v) (variable_at g v).initial
  pub takes : AllByRecursion (λ i. i.variable ≡ v → HoldsIncoming g ranges i) (incoming g ranges)
