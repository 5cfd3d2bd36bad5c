-- What is declared apart, and else what the normal forms and the runs show.
use Rattle.std.proofs.Common.{List, ℕ, sym, ap, ◌∙◌, subst}
use Rattle.std.specs.Prelude.{IfOk}
use Rattle.model_core.specs.declared.model.Model.{Model}
use Rattle.model_core.specs.Code.Views.{graph_of}
use Rattle.model_core.specs.Static.Reading.{IsValid}
use Rattle.normal_form.specs.Normal.{Normal}
use Rattle.normal_form.specs.OneForm.{equal_but_names}
use Rattle.model_pairs.specs.DeclaredApart.{declared_apart}
use Rattle.run_control.specs.ModelWithStarts.{ModelWithStarts}
use Rattle.answer_delivery.specs.declared.status.End.TheVariants as ends
use Rattle.job_answers.specs.CompareAnswer.{answer_of_runs, declared_or, same_or, OfForms}
use Rattle.job_answers.proofs.AnswerTerms.{Given}
use Rattle.job_answers.proofs.commands.CompareLaws.{forms_of, declared_so}
use Rattle.job_answers.proofs.commands.RewritingLaws.{BecomesOne}
use Rattle.job_answers.proofs.commands.compare.comparing.Goals as goal

pub taken_too-others-requires-clause-declared : goal.taken_too-others-requires-clause-declared
taken_too-others-requires-clause-declared c =
    ap (λ (m : Model). declared_apart (graph_of m) (graph_of c.args.second.now)) (sym c.model.ensures.model) ∙ sym c.in_ok-lines.ensures ∙ c.in-None.is

pub same_or_compare_runs-requires-clause-second_valid : goal.same_or_compare_runs-requires-clause-second_valid
same_or_compare_runs-requires-clause-second_valid c = subst (λ (s : ModelWithStarts). IsValid (graph_of s.model)) (sym c.taken_too-others.ensures) c.requires.second_valid

pub returns-in_ok-declared_text-in-Some : goal.returns-in_ok-declared_text-in-Some
returns-in_ok-declared_text-in-Some c =
    let g = graph_of c.args.first.now.model in
    let h = graph_of c.args.second.now in
    let o = c.args.options.now in
    let law : BecomesOne Normal = record { ends = c.normal_forms_keep_the_meaning.ensures.exists; determined = c.normal_forms_keep_the_meaning.ensures.determined } in
    let forms = forms_of law g h c.requires.first_valid c.requires.second_valid in
    let later = same_or (equal_but_names forms.first forms.second) (answer_of_runs g h o 1 o.runs) in (
      forms,
      ap (λ (t : List ℕ). Given ends.Differs t) c.in_ok-declared_text-in-Some.ensures
          ∙ ap (λ d. declared_or d later) (sym c.in-Some.is ∙ c.in_ok-lines.ensures ∙ ap (λ (m : Model). declared_apart (graph_of m) h) c.model.ensures.model),
    )

pub returns-in-None : goal.returns-in-None
returns-in-None c =
    let g = graph_of c.args.first.now.model in
    let h = graph_of c.args.second.now in
    let o = c.args.options.now in
    let none = sym (ap (λ (m : Model). declared_apart (graph_of m) h) c.model.ensures.model) ∙ sym c.in_ok-lines.ensures ∙ c.in-None.is in
    declared_so g h (declared_apart g h) (λ one other. same_or (equal_but_names one other) (answer_of_runs g h o 1 o.runs)) c.same_or_compare_runs.result none
    (subst (λ (s : ModelWithStarts). IfOk c.same_or_compare_runs.result (OfForms g (graph_of s.model) (λ one other. same_or (equal_but_names one other) (answer_of_runs g (graph_of s.model) o 1 o.runs))))
    c.taken_too-others.ensures c.same_or_compare_runs.ensures)
