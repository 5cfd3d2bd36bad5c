-- Which ranges a state lies within, and which guards keep it within what they leave of them.
use Rattle.std.specs.Prelude.{◌≡◌, ℕ, ◌<◌, pos, ◌≤ℤ◌, Bool, List, Ok}
use Rattle.model_core.specs.declared.model.Kind.TheVariants as kinds
use Rattle.model_core.specs.EventGraph.{EventGraph, Variable, Expression}
use Rattle.model_core.specs.Run.State.{State, variable_at, cell_count, cell_at}
use Rattle.model_core.specs.Run.Value.{number_of, value_of}
use Rattle.model_core.specs.Static.HasKind.{HasKind}
use Rattle.model_core.specs.Rules.BoundsOf.{Guard, ranged_at}

-- these ranges are those of variables of the same kinds and sizes
pub record LikeDeclared (g : EventGraph) (ranges : List Variable) : Type 0 where
  pub kinds : (v : ℕ) → (ranged_at ranges v).kind ≡ (variable_at g v).kind
  pub sizes : (v : ℕ) → (ranged_at ranges v).size ≡ (variable_at g v).size

-- the range of a truth value is 0..1
pub record ZeroToOne (v : Variable) : Type 0 where
  pub low : v.lo ≡ pos 0
  pub high : v.hi ≡ pos 1

-- each of these that holds truth values has their range
abbrev pub TruthsAreDeclared : List Variable → Type 0
TruthsAreDeclared ranges = (v : ℕ) → (ranged_at ranges v).kind ≡ kinds.Truth → ZeroToOne (ranged_at ranges v)

-- the state lies within these ranges
pub record LiesWithin (s : State) (ranges : List Variable) : Type 0 where
  pub low : (v i : ℕ) → i < cell_count (ranged_at ranges v) → (ranged_at ranges v).lo ≤ℤ cell_at s (record { variable = v; index = i })
  pub high : (v i : ℕ) → i < cell_count (ranged_at ranges v) → cell_at s (record { variable = v; index = i }) ≤ℤ (ranged_at ranges v).hi
  pub zero_one : TruthsAreDeclared ranges

-- A guard keeps kinds and sizes. Where an expression has a truth value, the state stays within the ranges that it makes.
pub record GuardHolds (g : EventGraph) (s : State) (clk : ℕ) (under : Guard) : Type 0 where
  pub alike : (e : Expression) (b : Bool) (ranges : List Variable) → LikeDeclared g ranges → LikeDeclared g (under e b ranges)
  pub holds : (e : Expression) (b : Bool) (ranges : List Variable) → HasKind g.variables e kinds.Truth → LiesWithin s ranges → value_of g s clk e ≡ Ok (number_of b) → LiesWithin s (under e b ranges)
