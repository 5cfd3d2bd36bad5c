-- Each application is the first rule, and its result is computed.
use Rattle.std.proofs.Common.{refl}
use Rattle.model_core.specs.Rules.BoundsTable.{exact_bounds, least_of, greatest_of}
use Rattle.worked_runs.specs.ThreeRules.{narrow_pruned, narrow_settled, narrow_dropped, faulting_settled, faulting_reduced}
use Rattle.worked_runs.proofs.three_rules.three_rules_reduce.Goals as goal

pub returns-clause-narrow_one : goal.returns-clause-narrow_one
unfolding exact_bounds least_of greatest_of
returns-clause-narrow_one c = (refl, narrow_pruned, refl, (refl, narrow_settled, refl, (refl, narrow_dropped, refl, (refl, refl))))

pub returns-clause-faulting_one : goal.returns-clause-faulting_one
unfolding exact_bounds least_of greatest_of
returns-clause-faulting_one c = (refl, faulting_settled, refl, (refl, faulting_reduced, refl, (refl, refl)))
