use Rattle.edge_pruning.proofs.GoneAlone.{same-conditions, same-left, same-unreached}
use Rattle.edge_pruning.proofs.law.dropping_takes_no_notice_of_the_vertex.Goals as goal

pub returns-clause-conditions : goal.returns-clause-conditions
returns-clause-conditions c = same-conditions

pub returns-clause-unreached : goal.returns-clause-unreached
returns-clause-unreached c = same-unreached

pub returns-clause-left : goal.returns-clause-left
returns-clause-left c = same-left
