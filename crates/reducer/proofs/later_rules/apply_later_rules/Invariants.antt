use Rattle.std.proofs.Common.{map}
use Rattle.model_core.specs.Code.Views.{graph_of, application_of}
use Rattle.model_facts.specs.Progress.{IsProgress}
use Rattle.merge_rules.specs.KeptPairs.{PairsAreRight}
use Rattle.reducer.proofs.RuleByRule.{Led}
use Rattle.reducer.proofs.StrategyEnds.{measure}
use Rattle.reducer.proofs.later_rules.apply_later_rules.Given as goal

abbrev pub invariant-loop-underway : goal.invariant-loop-underway
invariant-loop-underway l = record {
  led : Led (graph_of l.initial.underway.model) (graph_of l.underway.model) (map application_of l.initial.underway.applications.items) (map application_of l.underway.applications.items);
  progress : IsProgress (graph_of l.underway.model) l.underway.progress;
  pairs : PairsAreRight (graph_of l.underway.model) l.underway.pairs;
}

abbrev pub decreases-loop-underway : goal.decreases-loop-underway
decreases-loop-underway l = measure (graph_of l.underway.model)
