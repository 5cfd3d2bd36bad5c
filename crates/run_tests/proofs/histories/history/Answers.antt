use Rattle.model_core.specs.Code.Views.{graph_of}
use Rattle.run_tests.proofs.histories.history.Goals as goal

pub followed-outcomes-requires-clause-possible : goal.followed-outcomes-requires-clause-possible
followed-outcomes-requires-clause-possible c = c.kept_models_can_be_run.ensures (graph_of c.in_ok-model.model) c.in_ok-model.ensures.kept c.in_ok-model.ensures.spellable
