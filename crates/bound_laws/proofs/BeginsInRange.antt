-- The runs of a model that keeps the static rules begin in range.
use Rattle.std.proofs.Common.{zero, suc, ◌&&◌, IsTrue, All, List, [], ◌∷◌, ap₂, arith}
use Rattle.std.specs.List.{AllByRecursion}
use Rattle.sig_base.proofs.Tests.{int_le-true}
use Rattle.model_core.specs.EventGraph.{EventGraph, Variable}
use Rattle.model_core.specs.Run.State.{within, in_range, initial_state}
use Rattle.model_core.specs.Static.OwnRules.{KeepsVariable, KeepsParts}
use Rattle.run_laws.proofs.InRange.{starts_in_range}

begins_within : (vs : List Variable) → AllByRecursion KeepsVariable vs → All (λ v. IsTrue (within v.lo v.hi v.initial)) vs
begins_within [] keep k d below = absurd (omega arith)
begins_within (v ∷ vs) keep zero d below = ap₂ (λ a b. a && b) (int_le-true v.lo v.initial keep.0.from_lo) (int_le-true v.initial v.hi keep.0.to_hi)
begins_within (v ∷ vs) keep (suc k) d below = begins_within vs keep.1 k d (omega arith)

pub kept_models_begin_in_range : (g : EventGraph) → KeepsParts g → IsTrue (in_range g (initial_state g))
kept_models_begin_in_range g keeps = starts_in_range g (begins_within g.variables keeps.variables)
