use Rattle.reducer.proofs.WholeStrategy.{whole_strategy}
use Rattle.reducer.proofs.strategy_law.strategies_end.Goals as goal

pub returns : goal.returns
returns c = λ g valid. whole_strategy c.chains_keep_the_meaning.ensures.valid c.chains_keep_the_meaning.ensures.one_valid c.later_rules_leave_edges.ensures c.merging_takes_an_urgent_edge.ensures g valid
