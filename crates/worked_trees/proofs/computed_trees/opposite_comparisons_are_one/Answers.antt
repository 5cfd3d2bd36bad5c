use Rattle.worked_trees.proofs.ComputedTrees.{opposite_comparison, opposite_tree, not_zero, equal_turned, twice_not}
use Rattle.worked_trees.proofs.computed_trees.opposite_comparisons_are_one.Goals as goal

pub returns-clause-less : goal.returns-clause-less
returns-clause-less c = opposite_comparison

pub returns-clause-tree : goal.returns-clause-tree
returns-clause-tree c = opposite_tree

pub returns-clause-equal : goal.returns-clause-equal
returns-clause-equal c = not_zero

pub returns-clause-turned : goal.returns-clause-turned
returns-clause-turned c = equal_turned

pub returns-clause-twice : goal.returns-clause-twice
returns-clause-twice c = twice_not
