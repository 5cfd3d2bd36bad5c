use Rattle.model_core.specs.Code.Views.{graph_of}
use Rattle.run_tests.proofs.both_lists.both_histories.Goals as goal

pub histories_over_both-outcomes-requires : goal.histories_over_both-outcomes-requires
histories_over_both-outcomes-requires c = c.kept_models_can_be_run.ensures (graph_of c.in_ok-model.model) c.in_ok-model.ensures.kept c.in_ok-model.ensures.spellable
