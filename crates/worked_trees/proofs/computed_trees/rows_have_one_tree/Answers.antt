use Rattle.worked_trees.proofs.ComputedTrees.{quotient_stays, load_come, load_run, least_turned, truths}
use Rattle.worked_trees.proofs.computed_trees.rows_have_one_tree.Goals as goal

pub returns-clause-quotient : goal.returns-clause-quotient
returns-clause-quotient c = quotient_stays

pub returns-clause-least : goal.returns-clause-least
returns-clause-least c = load_come

pub returns-clause-greatest : goal.returns-clause-greatest
returns-clause-greatest c = load_run

pub returns-clause-truths : goal.returns-clause-truths
returns-clause-truths c = truths

pub returns-clause-least_turned : goal.returns-clause-least_turned
returns-clause-least_turned c = least_turned
