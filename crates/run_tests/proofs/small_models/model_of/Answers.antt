use Rattle.model_core.specs.Code.Views.{graph_of}
use Rattle.model_core.specs.Code.WrittenViews.{written_model}
use Rattle.run_tests.proofs.small_models.model_of.Goals as goal

pub returns-clause-kept : goal.returns-clause-kept
returns-clause-kept c = ((c.accepted_models_keep_their_rules.ensures (written_model c.in_ok-raw.raw) (graph_of c.in_ok-model.model)).0 c.in_ok-model.ensures.accepted).1

pub returns-clause-spellable : goal.returns-clause-spellable
returns-clause-spellable c =
    let g = graph_of c.in_ok-model.model in
    let w = written_model c.in_ok-raw.raw in
    let kept = (c.accepted_models_keep_their_rules.ensures w g).0 c.in_ok-model.ensures.accepted in
    c.spelled_models_are_spellable.ensures.spellable c.args.text.now w g c.in_ok-raw.ensures kept.0
