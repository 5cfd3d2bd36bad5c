use Rattle.merge_rules.proofs.RulesOfMergedEdges.{merged-prune, merged-settle}
use Rattle.merge_rules.proofs.law.merging_brings_no_rule_of_edges.Goals as goal

pub returns-clause-prune : goal.returns-clause-prune
returns-clause-prune c = merged-prune

pub returns-clause-settle : goal.returns-clause-settle
returns-clause-settle c = merged-settle
