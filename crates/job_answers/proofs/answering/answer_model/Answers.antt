-- Each command on a lent model answers as its line of the definition says.
use Rattle.std.proofs.Common.{◌≡◌, Result, subst, sym}
use Rattle.sig_base.specs.Sink.{Outlet}
use Rattle.command_words.specs.declared.reading.ModelJob.{ModelJob}
use Rattle.command_words.specs.declared.reading.ModelJob.TheVariants as models
use Rattle.job_answers.specs.Answers.{AnswersModel, MayLackMemory}
use Rattle.job_answers.proofs.ModelTerms.{EventGraph, graph_of}
use Rattle.job_answers.proofs.AnswerTerms.{Failure, DeliveryOutcome, DeliversSome}
use Rattle.job_answers.proofs.Streaming.{delivered}
use Rattle.job_answers.proofs.answering.answer_model.Goals.{in-Check, in-Print, in-Uses, in-Conflicts, in-Describe, in-Run, in-Replicate, in-Save}
use Rattle.job_answers.proofs.answering.answer_model.Goals as goal

module _ {K : Type 0} (seen : K → Outlet) (g : EventGraph) (o : K) where
  abbrev DeliversOf : ModelJob → Result DeliveryOutcome Failure → K → Type 0
  DeliversOf job r p = DeliversSome seen (AnswersModel job g) (MayLackMemory job g) r o p

  -- the facts of an arm
  in_branch : (job this : ModelJob) (r s : Result DeliveryOutcome Failure) (p q : K) → job ≡ this → r ≡ s → p ≡ q → DeliversOf this s q → DeliversOf job r p
  in_branch job this r s p q is said output h =
      subst (λ (j : ModelJob). DeliversOf j r p) (sym is) (subst (λ (x : Result DeliveryOutcome Failure). DeliversOf this x p) (sym said) (subst (λ (x : K). DeliversOf this s x) (sym output) h))

pub returns : goal.returns
returns g c = elim c.match-job.branch [
  | in-Check w ↦ in_branch _ _ _ _ models.Check _ _ _ _ w.in-Check.is w.said-is w.output-is (delivered g.K.Sink.seen (AnswersModel models.Check (graph_of c.args.model)) ⊥ c.args.output.now _ _ _ w.check.ensures w.deliver-said.ensures)
  | in-Print w ↦ in_branch _ _ _ _ models.Print _ _ _ _ w.in-Print.is w.said-is w.output-is (delivered g.K.Sink.seen (AnswersModel models.Print (graph_of c.args.model)) ⊥ c.args.output.now _ _ _ w.print.ensures w.deliver-said-in-Print.ensures)
  | in-Uses w ↦ in_branch _ _ _ _ models.Uses _ _ _ _ w.in-Uses.is w.said-is w.output-is (delivered g.K.Sink.seen (AnswersModel models.Uses (graph_of c.args.model)) ⊥ c.args.output.now _ _ _ w.uses.ensures w.deliver-said-in-Uses.ensures)
  | in-Conflicts w ↦ in_branch _ _ _ _ models.Conflicts _ _ _ _ w.in-Conflicts.is w.said-is w.output-is (delivered g.K.Sink.seen (AnswersModel models.Conflicts (graph_of c.args.model)) ⊥ c.args.output.now _ _ _ w.conflicts.ensures w.deliver-said-in-Conflicts.ensures)
  | in-Describe w ↦ in_branch _ _ _ _ models.Describe _ _ _ _ w.in-Describe.is w.said-is w.output-is (delivered g.K.Sink.seen (AnswersModel models.Describe (graph_of c.args.model)) ⊥ c.args.output.now _ _ _ w.describe.ensures w.deliver-said-in-Describe.ensures)
  | in-Run w ↦ in_branch _ _ _ _ _ _ _ _ _ w.in-Run.is w.said-is w.output-is w.run-said.ensures
  | in-Replicate w ↦ in_branch _ _ _ _ _ _ _ _ _ w.in-Replicate.is w.said-is w.output-is w.replicate-said.ensures
  | in-Save w ↦ in_branch _ _ _ _ _ _ _ _ _ w.in-Save.is w.said-is w.output-is w.save-said.ensures
]
