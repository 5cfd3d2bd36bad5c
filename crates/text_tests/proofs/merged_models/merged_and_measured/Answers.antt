-- Nothing is known yet.
use Rattle.model_core.specs.Code.Views.{graph_of}
use Rattle.text_tests.proofs.merged_models.merged_and_measured.Goals as goal

pub merge_measured-requires-clause-facts : goal.merge_measured-requires-clause-facts
merge_measured-requires-clause-facts c = c.begin-facts.ensures (graph_of c.args.model.now)
