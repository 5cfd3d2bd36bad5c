-- Bounds under refined ranges hold in each state within the ranges.
use Rattle.std.proofs.Common.{◌≡◌, ℕ, ◌≤◌, ◌^◌, ℤ, Bool, true, false, cond, IsTrue, List, Ok}
use Rattle.model_core.specs.declared.model.Kind.{Kind}
use Rattle.model_core.specs.declared.model.Kind.TheVariants as kinds
use Rattle.model_core.specs.EventGraph.{EventGraph, Variable, Expression}
use Rattle.model_core.specs.Run.State.{State, in_range}
use Rattle.model_core.specs.Run.Value.{number_of, value_of}
use Rattle.model_core.specs.Static.HasKind.{HasKind}
use Rattle.model_core.specs.Rules.BoundsOf.{bounds_under}
use Rattle.model_core.specs.Rules.BoundsHold.{NumberIn, TruthIn}
use Rattle.model_core.specs.Rules.RangesHold.{LikeDeclared, LiesWithin, TruthsAreDeclared, GuardHolds}
use Rattle.bound_laws.proofs.Soundness.Promise.{BoundsHold}
use Rattle.bound_laws.proofs.Soundness.BoundedExpressions.{sound}
use Rattle.bound_laws.proofs.Soundness.DeclaredRanges.{declared_hold, declared_alike, declared_sound}
use Rattle.bound_laws.proofs.Soundness.TruthEnds.{within_ends}
use Rattle.model_core.specs.Ranges.Refined.{refined}
use Rattle.range_infer.proofs.Refining.{refined-guard}

module _ (g : EventGraph) (truths_declared : TruthsAreDeclared g.variables) (s : State) (inside : IsTrue (in_range g s)) (clk : ℕ) (early : clk ≤ 2 ^ 48) where
  truth_values : (e : Expression) (x : ℤ) → HasKind g.variables e kinds.Truth → value_of g s clk e ≡ Ok x → (t : Bool) × (x ≡ number_of t)
  truth_values e x is done =
      let lies : TruthIn _ x = (declared_sound g s clk e kinds.Truth early inside truths_declared is).inside x done in
      (lies.truth, lies.value)

  guard : GuardHolds g s clk refined
  guard = refined-guard g s clk truth_values

  -- under the declared ranges, or those that are left of them where a condition holds
  pub guarded_sound : (e : Expression) (k : Kind) (ranges : List Variable) → HasKind g.variables e k → LikeDeclared g ranges → LiesWithin s ranges → BoundsHold k (bounds_under refined ranges e) (value_of g s clk e)
  guarded_sound e k ranges is alike holds = sound g s clk refined early guard e k ranges is alike holds

  pub between : (e : Expression) (k : Kind) (ranges : List Variable) (x : ℤ) → HasKind g.variables e k → LikeDeclared g ranges → LiesWithin s ranges → value_of g s clk e ≡ Ok x → NumberIn (bounds_under refined ranges e) x
  between e k ranges x is alike holds done =
      within_ends k (bounds_under refined ranges e) (value_of g s clk e) x (guarded_sound e k ranges is alike holds) done

  -- where a condition is true, the state lies within the ranges that are left, and the condition can be true
  pub left_within : (c : Expression) → HasKind g.variables c kinds.Truth → value_of g s clk c ≡ Ok (number_of true) → LiesWithin s (refined c true g.variables)
  left_within c is done = guard.holds c true g.variables is (declared_hold g s inside truths_declared) done

  pub left_alike : (c : Expression) → LikeDeclared g (refined c true g.variables)
  left_alike c = guard.alike c true g.variables (declared_alike g)

  can_be : (t : Bool) (can_true can_false : Bool) → number_of true ≡ number_of t → cond t can_true can_false ≡ true → can_true ≡ true
  can_be true can_true can_false e can = can
  can_be false can_true can_false e can = cc

  pub can_be_true : (c : Expression) → HasKind g.variables c kinds.Truth → value_of g s clk c ≡ Ok (number_of true) → (bounds_under refined g.variables c).can_true ≡ true
  can_be_true c is done =
      let lies : TruthIn (bounds_under refined g.variables c) (number_of true) = (guarded_sound c kinds.Truth g.variables is (declared_alike g) (declared_hold g s inside truths_declared)).inside (number_of true) done in
      can_be lies.truth (bounds_under refined g.variables c).can_true (bounds_under refined g.variables c).can_false lies.value lies.can
