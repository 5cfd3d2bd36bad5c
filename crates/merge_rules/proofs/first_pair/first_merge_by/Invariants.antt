use Rattle.std.proofs.Common.{◌≡◌, length}
use Rattle.model_core.specs.Rules.Merge.{merge_at, first_merge}
use Rattle.model_core.specs.Code.Views.{graph_of}
use Rattle.model_facts.specs.FactsOfModel.{FactsAreRight}
use Rattle.merge_rules.proofs.ConditionsAsked.PairsFound.{first_from}
use Rattle.merge_rules.proofs.first_pair.first_merge_by.Given as goal

abbrev pub invariant-loop-first : goal.invariant-loop-first
invariant-loop-first g l = record {
  found : first_from (merge_at (graph_of l.model)) l.first (length l.model.vertices) ≡ first_merge (graph_of l.model);
  facts : FactsAreRight (graph_of l.model) l.facts;
  same : l.readers ≡ l.initial.readers;
}
