use Rattle.std.proofs.Common.{◌≡◌, Option, subst}
use Rattle.std.specs.Prelude.{IfOk}
use Rattle.answer_delivery.specs.declared.answer.Answer.{Answer}
use Rattle.job_answers.specs.Inner.SaveSteps.{SavedOrFinished}
use Rattle.job_answers.proofs.ModelTerms.{graph_of, SavedRun}
use Rattle.job_answers.proofs.commands.SaveLaws.{saved_is_good, saved_answer, finished_answer}
use Rattle.job_answers.proofs.commands.save.saving.Goals as goal

-- what is saved of a run that goes on is good
pub document-requires : goal.document-requires
document-requires g c =
    let graph = graph_of c.args.model.now in
    let o = c.args.options.now in
    let kept = (c.validity_is_by_parts.ensures.by_parts graph).0 c.requires.valid in
    let begun = c.requires.begun in
    saved_is_good graph o (λ going. c.saved_runs_resume.ensures graph o.seed o.starts o.until o.events kept.0 kept.1 c.requires.wide begun.1.accepted c.requires.soon c.requires.budget going) c.in-Some.snapshot
    (subst (λ (x : Option SavedRun). SavedOrFinished graph o.until o.seed o.events o.starts x) c.in-Some.is c.in_ok-snapshot.ensures)

pub returns-in-Some : goal.returns-in-Some
returns-in-Some g c =
    let graph = graph_of c.args.model.now in
    let o = c.args.options.now in
    subst (λ (answer : Answer). IfOk c.document.result (λ a. a ≡ answer))
    (saved_answer graph o c.in-Some.snapshot (subst (λ (x : Option SavedRun). SavedOrFinished graph o.until o.seed o.events o.starts x) c.in-Some.is c.in_ok-snapshot.ensures)) c.document.ensures

pub returns-in-None : goal.returns-in-None
returns-in-None g c =
    let graph = graph_of c.args.model.now in
    let o = c.args.options.now in
    subst (λ (answer : Answer). IfOk c.finished.result (λ a. a ≡ answer))
    (finished_answer graph o (subst (λ (x : Option SavedRun). SavedOrFinished graph o.until o.seed o.events o.starts x) c.in-None.is c.in_ok-snapshot.ensures)) c.finished.ensures
