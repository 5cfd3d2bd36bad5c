use Rattle.edge_pruning.proofs.RulesOfEdges.{settled-prune, settled-settle}
use Rattle.edge_pruning.proofs.law.settling_brings_no_rule_of_edges.Goals as goal

pub returns-clause-prune : goal.returns-clause-prune
returns-clause-prune c = settled-prune

pub returns-clause-settle : goal.returns-clause-settle
returns-clause-settle c = settled-settle
