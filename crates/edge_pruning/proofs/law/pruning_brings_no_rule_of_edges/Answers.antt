use Rattle.edge_pruning.proofs.RulesOfEdges.{pruned-prune, pruned-settle}
use Rattle.edge_pruning.proofs.law.pruning_brings_no_rule_of_edges.Goals as goal

pub returns-clause-prune : goal.returns-clause-prune
returns-clause-prune c = pruned-prune

pub returns-clause-settle : goal.returns-clause-settle
returns-clause-settle c = pruned-settle
