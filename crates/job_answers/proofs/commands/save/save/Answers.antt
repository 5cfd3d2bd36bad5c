use Rattle.std.proofs.Common.{◌≡◌, subst}
use Rattle.std.specs.Prelude.{IfOk}
use Rattle.model_core.specs.Code.Views.{graph_of}
use Rattle.answer_delivery.specs.declared.answer.Answer.{Answer}
use Rattle.job_answers.specs.SaveAnswer.{saving_answer, save_answer}
use Rattle.job_answers.proofs.commands.SaveLaws.{begun_answer}
use Rattle.job_answers.proofs.StartLaws.{start_refused}
use Rattle.job_answers.proofs.Streaming.{delivered}
use Rattle.job_answers.proofs.commands.save.save.Goals as goal

pub returns-in-Err : goal.returns-in-Err
returns-in-Err g c =
    let graph = graph_of c.args.model.now in
    let options = c.args.options.now in
    start_refused g.K.Sink.seen graph options.starts (saving_answer graph options) ⊥ c.in-Err.error c.refuse_start.result c.args.output.now (λ line is. c.in-Err.ensures.err) c.refuse_start.ensures

pub returns : goal.returns
returns g c =
    let graph = graph_of c.args.model.now in
    let options = c.args.options.now in
    delivered g.K.Sink.seen (λ a. a ≡ save_answer graph options) ⊥ c.args.output.now c.deliver.new.output c.saving.result c.deliver.result
    (subst (λ (answer : Answer). IfOk c.saving.result (λ a. a ≡ answer)) (begun_answer graph options c.in-Ok.ensures.ok.accepted) c.saving.ensures) c.deliver.ensures
