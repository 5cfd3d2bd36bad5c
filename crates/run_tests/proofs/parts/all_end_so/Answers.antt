use Rattle.model_core.specs.Code.Views.{graph_of}
use Rattle.run_tests.proofs.parts.all_end_so.Goals as goal

pub four_ways-all-requires : goal.four_ways-all-requires
four_ways-all-requires c = c.kept_models_can_be_run.ensures (graph_of c.in_ok-model.model) c.in_ok-model.ensures.kept c.in_ok-model.ensures.spellable
