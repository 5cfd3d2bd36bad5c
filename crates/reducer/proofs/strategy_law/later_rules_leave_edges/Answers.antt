use Rattle.reducer.proofs.strategy_law.later_rules_leave_edges.Goals as goal

pub returns : goal.returns
returns c = record {
  prune_dropped = c.dropping_brings_no_rule_of_edges.ensures.prune;
  settle_dropped = c.dropping_brings_no_rule_of_edges.ensures.settle;
  prune_merged = c.merging_brings_no_rule_of_edges.ensures.prune;
  settle_merged = c.merging_brings_no_rule_of_edges.ensures.settle;
  prune_sliced = c.slicing_leaves_the_rules_of_edges.ensures.prune;
  settle_sliced = c.slicing_leaves_the_rules_of_edges.ensures.settle;
}
