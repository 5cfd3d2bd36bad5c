-- One normal form, and else what the runs show.
use Rattle.std.proofs.Common.{rules, ◌≡◌, sym, ap, subst}
use Rattle.model_core.specs.declared.model.Model.{Model}
use Rattle.model_core.specs.Code.Views.{graph_of}
use Rattle.model_core.specs.Static.Reading.{IsValid}
use Rattle.job_answers.specs.CompareAnswer.{same_text, answer_of_runs}
use Rattle.job_answers.proofs.commands.CompareLaws.{forms_said, forms_not_said}
use Rattle.job_answers.proofs.commands.compare.same_or_compare_runs.Goals as goal

pub have_one_form-requires-clause-first_valid : goal.have_one_form-requires-clause-first_valid
have_one_form-requires-clause-first_valid c = subst (λ (m : Model). IsValid (graph_of m)) (sym c.model.ensures.model) c.requires.first_valid

pub have_one_form-requires-clause-second_valid : goal.have_one_form-requires-clause-second_valid
have_one_form-requires-clause-second_valid c = subst (λ (m : Model). IsValid (graph_of m)) (sym c.model-2.ensures.model) c.requires.second_valid

pub returns-then-one_form : goal.returns-then-one_form
returns-then-one_form c =
    let written : c.from_vec.result ≡ same_text = search rules in
    forms_said (graph_of c.args.first.now.model) (graph_of c.args.second.now.model) _ _ _ (ap graph_of c.model.ensures.model) (ap graph_of c.model-2.ensures.model) c.in_ok-one_form.ensures c.if-one_form.true
    (answer_of_runs (graph_of c.args.first.now.model) (graph_of c.args.second.now.model) c.args.options.now 1 c.args.options.now.runs) c.from_vec.result written

pub returns : goal.returns
returns c =
    forms_not_said (graph_of c.args.first.now.model) (graph_of c.args.second.now.model) _ _ _ (ap graph_of c.model.ensures.model) (ap graph_of c.model-2.ensures.model) c.in_ok-one_form.ensures c.if-one_form.false c.compare_runs.result
    (answer_of_runs (graph_of c.args.first.now.model) (graph_of c.args.second.now.model) c.args.options.now 1 c.args.options.now.runs) c.compare_runs.ensures
