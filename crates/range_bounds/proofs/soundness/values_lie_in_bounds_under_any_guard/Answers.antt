use Rattle.model_core.specs.Run.Value.{value_of}
use Rattle.model_core.specs.Rules.BoundsOf.{bounds_under}
use Rattle.bound_laws.proofs.Soundness.BoundedExpressions.{sound}
use Rattle.bound_laws.proofs.Soundness.DeclaredRanges.{declared_alike, declared_hold, no_guard_holds}
use Rattle.bound_laws.proofs.Soundness.TruthEnds.{truths_declared, within_ends}
use Rattle.range_bounds.proofs.soundness.values_lie_in_bounds_under_any_guard.Goals as goal

pub returns-clause-inside : goal.returns-clause-inside
returns-clause-inside c = λ g under ranges s clk e k x alike within guard early is done. (sound g s clk under early guard e k ranges is alike within).inside x done

pub returns-clause-between : goal.returns-clause-between
returns-clause-between c = λ g under ranges s clk e k x alike within guard early is done. within_ends k (bounds_under under ranges e) (value_of g s clk e) x (sound g s clk under early guard e k ranges is alike within) done

pub returns-clause-no_fault : goal.returns-clause-no_fault
returns-clause-no_fault c = λ g under ranges s clk e k alike within guard early is quiet. (sound g s clk under early guard e k ranges is alike within).safe quiet

pub returns-clause-declared_alike : goal.returns-clause-declared_alike
returns-clause-declared_alike c = declared_alike

pub returns-clause-declared_hold : goal.returns-clause-declared_hold
returns-clause-declared_hold c = λ g s keep inside. declared_hold g s inside (truths_declared g.variables keep)

pub returns-clause-no_guard_holds : goal.returns-clause-no_guard_holds
returns-clause-no_guard_holds c = no_guard_holds
