-- Bounds under ranges that fit a model hold in each state within them.
use Rattle.std.proofs.Common.{ℕ, ◌≤◌, ◌^◌, IsTrue, List, sym, subst}
use Rattle.std.specs.List.{AllByRecursion}
use Rattle.model_core.specs.declared.model.Kind.{Kind}
use Rattle.model_core.specs.EventGraph.{EventGraph, Expression}
use Rattle.model_core.specs.Run.State.{State, in_range}
use Rattle.model_core.specs.Run.Value.{value_of}
use Rattle.model_core.specs.Static.HasKind.{HasKind}
use Rattle.model_core.specs.Static.OwnRules.{KeepsVariable}
use Rattle.bound_laws.proofs.Soundness.Promise.{BoundsHold}
use Rattle.model_core.specs.declared.var_range.VarRange.{VarRange}
use Rattle.model_core.specs.Ranges.OtherRanges.{model_with_ranges}
use Rattle.model_core.specs.Ranges.BoundsIn.{bounds_in}
use Rattle.model_core.specs.Ranges.Inductive.{Fitting}
use Rattle.range_infer.proofs.ModelWithRanges.{has_kind, same_value}
use Rattle.bound_laws.proofs.Soundness.DeclaredRanges.{declared_alike, declared_hold}
use Rattle.range_infer.proofs.BoundsInHold.{guarded_sound}
use Rattle.range_infer.proofs.NarrowModels.{truths_redeclared}

pub under_ranges : (g : EventGraph) (ranges : List VarRange) (s : State) (clk : ℕ) (e : Expression) (k : Kind) → AllByRecursion KeepsVariable g.variables → Fitting g ranges → IsTrue (in_range (model_with_ranges g ranges) s) → clk ≤ 2 ^ 48 → HasKind g.variables e k → BoundsHold k (bounds_in g ranges e) (value_of g s clk e)
under_ranges g ranges s clk e k keep fitting inside early is =
    let h = model_with_ranges g ranges in
    let truths = truths_redeclared g ranges keep fitting in
    subst (BoundsHold k (bounds_in g ranges e)) (sym (same_value g ranges s clk e))
    (guarded_sound h truths s inside clk early e k h.variables (has_kind g.variables ranges e k is) (declared_alike h) (declared_hold h s inside truths))
