use Rattle.model_core.specs.Code.Views.{graph_of}
use Rattle.run_tests.proofs.parts.clock_with_one_more.Goals as goal

pub turns_with_one_more-one-requires-clause-possible : goal.turns_with_one_more-one-requires-clause-possible
turns_with_one_more-one-requires-clause-possible c = c.kept_models_can_be_run.ensures (graph_of c.in_ok-model.model) c.in_ok-model.ensures.kept c.in_ok-model.ensures.spellable

pub turns_with_one_more-other-requires-clause-possible : goal.turns_with_one_more-other-requires-clause-possible
turns_with_one_more-other-requires-clause-possible c = c.kept_models_can_be_run.ensures (graph_of c.in_ok-model.model) c.in_ok-model.ensures.kept c.in_ok-model.ensures.spellable
