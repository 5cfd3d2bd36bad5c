use Rattle.edge_pruning.proofs.RulesOfEdges.{dropped-prune, dropped-settle}
use Rattle.edge_pruning.proofs.law.dropping_brings_no_rule_of_edges.Goals as goal

pub returns-clause-prune : goal.returns-clause-prune
returns-clause-prune c = dropped-prune

pub returns-clause-settle : goal.returns-clause-settle
returns-clause-settle c = dropped-settle
