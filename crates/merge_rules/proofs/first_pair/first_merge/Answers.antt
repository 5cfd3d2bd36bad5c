-- Nothing is known yet.
use Rattle.model_core.specs.Code.Views.{graph_of}
use Rattle.merge_rules.proofs.first_pair.first_merge.Goals as goal

pub first_merge_by-requires-clause-facts : goal.first_merge_by-requires-clause-facts
first_merge_by-requires-clause-facts c = c.nothing.ensures (graph_of c.args.model.now)
