-- A model that keeps its rules and can be spelled can be run.
use Rattle.model_core.specs.Code.Views.{graph_of}
use Rattle.run_tests.proofs.tallies.counting_model.Goals as goal

pub returns : goal.returns
returns c = c.kept_models_can_be_run.ensures (graph_of c.in_ok-model.model) c.in_ok-model.ensures.kept c.in_ok-model.ensures.spellable
