-- The runs of a number differ, or the next ones are asked.
use Rattle.std.proofs.Common.{List, ℕ, ap, ◌∙◌}
use Rattle.model_core.specs.Code.Views.{graph_of}
use Rattle.answer_delivery.specs.declared.status.End.TheVariants as ends
use Rattle.job_answers.specs.CompareAnswer.{answer_of_runs}
use Rattle.job_answers.proofs.AnswerTerms.{Given}
use Rattle.job_answers.proofs.commands.CompareLaws.{next_runs, these_differ, not_some}
use Rattle.job_answers.proofs.commands.compare.compare_runs.Goals as goal

pub returns-in-Some : goal.returns-in-Some
returns-in-Some c =
    let g = graph_of c.args.first.now.model in
    let h = graph_of c.args.second.now.model in
    let o = c.args.options.now in
    ap (λ (t : List ℕ). Given ends.Differs t) c.in_ok-run_text.ensures
    ∙ these_differ g h o c.loop-number.number c.loop-number-test.true c.seed_of_run-seed.result c.args.first.now.values c.in_ok-lines.field-0 c.seed_of_run-seed.ensures c.requires.given c.in_ok-lines.ensures
    c.in-Some.lines c.in-Some.is (answer_of_runs g h o 1 o.runs) c.loop-number.invariant

pub loop-number-preserved : goal.loop-number-preserved
loop-number-preserved c =
    let g = graph_of c.args.first.now.model in
    let h = graph_of c.args.second.now.model in
    let o = c.args.options.now in
    next_runs g h o c.loop-number.number c.loop-number-test.true c.seed_of_run-seed.result c.args.first.now.values c.in_ok-lines.field-0 c.seed_of_run-seed.ensures c.requires.given c.in_ok-lines.ensures
    (not_some c.in_ok-lines.field-0 c.in_default.not-Some) (answer_of_runs g h o 1 o.runs) c.loop-number.invariant
