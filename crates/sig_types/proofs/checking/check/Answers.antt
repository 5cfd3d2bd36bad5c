use Rattle.std.proofs.Common.{ap, sym, ◌∙◌}
use Rattle.std.specs.Option.{option_map}
use Rattle.model_core.specs.Code.Views.{graph_of}
use Rattle.model_core.specs.Code.WrittenViews.{written_model}
use Rattle.static_laws.proofs.WholeModel.{is_accepted}
use Rattle.sig_types.proofs.FirstFaultError.{is_first_fault}
use Rattle.sig_types.proofs.checking.check.Goals as goal

pub returns-in-None-clause-accepted : goal.returns-in-None-clause-accepted
returns-in-None-clause-accepted c =
    is_accepted (written_model c.args.raw) (graph_of c.in_ok-model.model) c.in_ok-model.ensures.numbered (sym c.in_ok-model.ensures.earliest ∙ c.first_fault.ensures ∙ ap (option_map _) c.in-None.is)

pub returns-in-Some-clause-refused : goal.returns-in-Some-clause-refused
returns-in-Some-clause-refused c =
    λ kind at is. is_first_fault (written_model c.args.raw) c.in-Some.found kind at (sym c.in_ok-model.ensures.earliest ∙ c.first_fault.ensures ∙ ap (option_map _) c.in-Some.is) is
