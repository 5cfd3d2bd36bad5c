-- Each application is the first rule, and its result is computed. One that stops early reaches a graph with a rule.
use Rattle.std.proofs.Common.{◌≡◌, Some, None, refl}
use Rattle.model_core.specs.EventGraph.{EventGraph}
use Rattle.model_core.specs.Rules.Reduction.{RuleApplication, first_rule}
use Rattle.worked_runs.specs.Reductions.{once_pruned, twice_pruned}
use Rattle.worked_runs.proofs.rules.the_strategy_ends.Goals as goal

-- a graph with a rule isn't one without
one_is_left : (g h : EventGraph) (a : RuleApplication) → first_rule h ≡ Some a → first_rule g ≡ None → g ≡ h → ⊥
one_is_left g h a left none same = cc

pub returns-clause-whole : goal.returns-clause-whole
returns-clause-whole c = (refl, once_pruned, refl, (refl, twice_pruned, refl, (refl, refl)))

pub returns-clause-not_before_its_end : goal.returns-clause-not_before_its_end
returns-clause-not_before_its_end c (first, next, made, (none, same)) = one_is_left next once_pruned _ refl none same
