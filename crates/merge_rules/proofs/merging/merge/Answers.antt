-- Nothing is known yet.
use Rattle.model_core.specs.Code.Views.{graph_of}
use Rattle.merge_rules.proofs.merging.merge.Goals as goal

pub merge_measured-requires-clause-facts : goal.merge_measured-requires-clause-facts
merge_measured-requires-clause-facts c = c.nothing.ensures (graph_of c.args.model.now)
