use Rattle.std.proofs.Common.{◌≡◌, length}
use Rattle.model_core.specs.Rules.Merge.{merge_at, first_merge}
use Rattle.model_core.specs.Code.Views.{graph_of}
use Rattle.model_facts.specs.FactsOfModel.{FactsAreRight}
use Rattle.model_facts.specs.NothingCounted.{NothingCounted}
use Rattle.merge_rules.specs.KeptPairs.{PairsAreRight}
use Rattle.merge_rules.proofs.ConditionsAsked.PairsFound.{first_from}
use Rattle.merge_rules.proofs.kept_search.KeptPairs.first_single.Given as goal

abbrev pub invariant-loop-first : goal.invariant-loop-first
invariant-loop-first l = record {
  sought : first_from (merge_at (graph_of l.model)) l.first (length l.model.vertices) ≡ first_merge (graph_of l.model);
  kept : PairsAreRight (graph_of l.model) l.self;
  facts : FactsAreRight (graph_of l.model) l.facts;
  counts : NothingCounted (length l.model.vars) l.counts;
  same : l.counts ≡ l.initial.counts;
}
