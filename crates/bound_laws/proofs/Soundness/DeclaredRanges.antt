-- A state in range lies within the declared ranges, so bounds hold in it.
use Rattle.std.proofs.Common.{ℕ, ◌≤◌, ◌^◌, IsTrue, int_le, refl}
use Rattle.sig_base.proofs.Tests.{true-int_le}
use Rattle.model_core.specs.declared.model.Kind.{Kind}
use Rattle.model_core.specs.EventGraph.{EventGraph, Expression}
use Rattle.model_core.specs.Run.State.{State, in_range}
use Rattle.model_core.specs.Run.Value.{value_of}
use Rattle.model_core.specs.Static.HasKind.{HasKind}
use Rattle.model_core.specs.Rules.BoundsOf.{ranged_at, no_guard, bounds_of}
use Rattle.model_core.specs.Rules.RangesHold.{LikeDeclared, LiesWithin, GuardHolds, TruthsAreDeclared}
use Rattle.bound_laws.proofs.Soundness.Promise.{BoundsHold}
use Rattle.model_core.proofs.BothTrue.{and_first, and_second}
use Rattle.run_laws.proofs.InRange.{cells_lie_in_range}
use Rattle.bound_laws.proofs.Soundness.BoundedExpressions.{sound}

pub declared_hold : (g : EventGraph) (s : State) → IsTrue (in_range g s) → TruthsAreDeclared g.variables → LiesWithin s g.variables
declared_hold g s e declared = record {
  low = λ v i small. true-int_le _ _ (and_first (int_le (ranged_at g.variables v).lo _) _ (cells_lie_in_range g s v i e small));
  high = λ v i small. true-int_le _ _ (and_second (int_le (ranged_at g.variables v).lo _) _ (cells_lie_in_range g s v i e small));
  zero_one = declared;
}

pub declared_alike : (g : EventGraph) → LikeDeclared g g.variables
declared_alike g = record { kinds = λ v. refl; sizes = λ v. refl }

-- ranges stay without a guard, so it holds
pub no_guard_holds : (g : EventGraph) (s : State) (clk : ℕ) → GuardHolds g s clk no_guard
no_guard_holds g s clk = record { alike = λ e b ranges a. a; holds = λ e b ranges k h is. h }

pub declared_sound : (g : EventGraph) (s : State) (clk : ℕ) (e : Expression) (k : Kind) → clk ≤ 2 ^ 48 → IsTrue (in_range g s) → TruthsAreDeclared g.variables → HasKind g.variables e k → BoundsHold k (bounds_of g e) (value_of g s clk e)
declared_sound g s clk e k early inside declared is = sound g s clk no_guard early (no_guard_holds g s clk) e k g.variables is (declared_alike g) (declared_hold g s inside declared)
