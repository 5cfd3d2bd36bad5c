use Rattle.std.proofs.Common.{◌≡◌, List, ℤ, subst}
use Rattle.std.specs.Prelude.{IfOk, IsTrue}
use Rattle.run_control.specs.Beginning.{RefusesStart}
use Rattle.run_control.specs.ModelWithStarts.{ModelWithStarts}
use Rattle.model_core.specs.Code.Views.{graph_of}
use Rattle.normal_form.specs.Normal.{Normal}
use Rattle.job_answers.specs.CompareAnswer.{comparing_answer, compare_answer, OfForms, Compares}
use Rattle.job_answers.proofs.ModelTerms.{allowed}
use Rattle.job_answers.proofs.commands.CompareLaws.{forms_of, begun_so}
use Rattle.job_answers.proofs.commands.RewritingLaws.{BecomesOne}
use Rattle.job_answers.proofs.StartLaws.{start_refused}
use Rattle.job_answers.proofs.Streaming.{delivered, delivers_as}
use Rattle.job_answers.proofs.commands.compare.compare.Goals as goal

-- a valid model can be run
pub check_starts-requires : goal.check_starts-requires
check_starts-requires g c =
    let kept = (c.validity_is_by_parts.ensures.by_parts (graph_of c.args.pair.now.first)).0 c.requires.first_valid in
    c.kept_models_can_be_run.ensures (graph_of c.args.pair.now.first) kept.0 kept.1

pub returns-in-Err : goal.returns-in-Err
returns-in-Err g c =
    let first = graph_of c.args.pair.now.first in
    let second = graph_of c.args.pair.now.second in
    let options = c.args.options.now in
    let law : BecomesOne Normal = record { ends = c.normal_forms_keep_the_meaning.ensures.exists; determined = c.normal_forms_keep_the_meaning.ensures.determined } in
    let forms = forms_of law first second c.requires.first_valid c.requires.second_valid in
    delivers_as g.K.Sink.seen (λ a. a ≡ compare_answer first second forms.first forms.second options) (Compares first second options) ⊥ c.refuse_start.result c.args.output.now c.args.output.now (λ a is. (forms, is))
    (start_refused g.K.Sink.seen first options.starts (comparing_answer first second forms.first forms.second options) ⊥ c.in-Err.error c.refuse_start.result c.args.output.now
    (λ line is. subst (λ (starts : List ℤ). RefusesStart first starts c.in-Err.error) c.as_slice.ensures c.in-Err.ensures.err) c.refuse_start.ensures)

pub returns-in-Ok : goal.returns-in-Ok
returns-in-Ok g c =
    let first = graph_of c.args.pair.now.first in
    let second = graph_of c.args.pair.now.second in
    let options = c.args.options.now in
    let taken = subst (λ (starts : List ℤ). IsTrue (allowed first starts)) c.as_slice.ensures c.in-Ok.ensures.ok in
    delivered g.K.Sink.seen (Compares first second options) ⊥ c.args.output.now c.deliver.new.output c.comparing.result c.deliver.result
    (begun_so first second options c.comparing.result taken
    (subst (λ (s : ModelWithStarts). IfOk c.comparing.result (OfForms (graph_of s.model) second (λ one other. comparing_answer (graph_of s.model) second one other options))) c.in-Ok.ensures.holds c.comparing.ensures))
    c.deliver.ensures
