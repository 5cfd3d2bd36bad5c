use Rattle.std.proofs.Common.{◌≡◌, ℕ, ◌+◌, List, Result, sym, ap, ◌∙◌, subst, arith}
use Rattle.model_core.specs.declared.model.Model.{Model}
use Rattle.model_core.specs.Code.Views.{graph_of}
use Rattle.run_control.specs.ModelWithStarts.{ModelWithStarts}
use Rattle.command_words.specs.declared.replicate_options.ReplicateOptions.{ReplicateOptions}
use Rattle.tally_report.specs.declared.run_tally.RunTally.{RunTally}
use Rattle.tally_report.specs.ReportText.{run_rows, total_rows}
use Rattle.job_answers.specs.ReplicateAnswer.{tally_numbered}
use Rattle.job_answers.specs.Inner.ReportSteps.{rest_of_report}
use Rattle.job_answers.specs.Inner.WritingSteps.{WritesPieces}
use Rattle.job_answers.proofs.AnswerTerms.{Failure, Written}
use Rattle.job_answers.proofs.PiecesWritten.{at_last, whole_piece, passed_failure, passed_memory, stopped}
use Rattle.job_answers.proofs.commands.ReplicateLaws.{Left, run_broken, run_written, totals_last}
use Rattle.job_answers.proofs.commands.replicate.write_all_runs.Goals as goal

-- the starting values are those of the model
of_model : (s : ModelWithStarts) (m : Model) (options : ReplicateOptions) (number : ℕ) (tally : RunTally) → s ≡ record { model = m; values = options.starts }
    → tally ≡ tally_numbered (graph_of s.model) options number → tally ≡ tally_numbered (graph_of m) options number
of_model s m options number tally of is = is ∙ ap (λ (s : ModelWithStarts). tally_numbered (graph_of s.model) options number) of

-- memory is refused for a tally
pub returns-in_err-tally : goal.returns-in_err-tally
returns-in_err-tally g c =
    let seen = g.K.Sink.seen in
    passed_memory _ c.from_residual.result (seen c.args.output.now) (seen c.loop-number.output) c.from_residual.ensures.1
    (stopped (Left (graph_of c.args.model.now) c.args.options.now c.loop-number.totals c.loop-number.number) _ (seen c.args.output.now) (seen c.loop-number.output) c.loop-number.invariant.0)

-- the rows of a run aren't written
pub returns-in_err-write_run_rows : goal.returns-in_err-write_run_rows
returns-in_err-write_run_rows g c =
    let seen = g.K.Sink.seen in
    let graph = graph_of c.args.model.now in
    let options = c.args.options.now in
    let all = rest_of_report graph options c.args.totals 1 options.runs in
    let (f, passed, broken) = passed_failure (run_rows graph c.loop-number.number c.seed_of_run-seed.result c.in_ok-tally.tally) c.write_run_rows.result c.from_residual-in_err-write_run_rows.result c.in_err-write_run_rows.field-0.0 (seen c.loop-number.output) (seen c.write_run_rows.new.output) c.in_err-write_run_rows.was c.from_residual-in_err-write_run_rows.ensures.1 c.write_run_rows.ensures.written in
    subst (λ (r : Result Unit Failure). WritesPieces all r (seen c.args.output.now) (seen c.write_run_rows.new.output)) (sym passed)
    (run_broken graph options c.loop-number.totals c.loop-number.totals c.loop-number.number c.seed_of_run-seed.result c.in_ok-tally.tally all (seen c.args.output.now) (seen c.loop-number.output) (seen c.write_run_rows.new.output)
    c.loop-number-test.true c.seed_of_run-seed.ensures (of_model c.args.starts.now c.args.model.now options c.loop-number.number c.in_ok-tally.tally c.requires.given c.in_ok-tally.ensures.of_run) c.loop-number.invariant.0 f broken)

-- they are
pub loop-number-preserved : goal.loop-number-preserved
loop-number-preserved g c =
    let seen = g.K.Sink.seen in
    let graph = graph_of c.args.model.now in
    let options = c.args.options.now in
    let all = rest_of_report graph options c.args.totals 1 options.runs in
    let rows = run_rows graph c.loop-number.number c.seed_of_run-seed.result c.in_ok-tally.tally in
    let added = c.in_ok-write_run_rows.ensures.added in (
      run_written graph options c.loop-number.totals c.write_run_rows.new.totals c.loop-number.number c.seed_of_run-seed.result c.in_ok-tally.tally all (seen c.args.output.now) (seen c.loop-number.output) (seen c.write_run_rows.new.output)
          c.loop-number-test.true c.seed_of_run-seed.ensures (of_model c.args.starts.now c.args.model.now options c.loop-number.number c.in_ok-tally.tally c.requires.given c.in_ok-tally.ensures.of_run) c.loop-number.invariant.0 added
          (subst (λ (r : Result Unit Failure). WritesPieces rows r (seen c.loop-number.output) (seen c.write_run_rows.new.output)) c.in_ok-write_run_rows.was c.write_run_rows.ensures.written),
      ap (λ t. t.runs + 1) added ∙ omega (arith, c.loop-number.invariant.1),
    )

-- memory is refused for the rows of the totals
pub returns-in_err-totals_csv : goal.returns-in_err-totals_csv
returns-in_err-totals_csv g c =
    let seen = g.K.Sink.seen in
    passed_memory _ c.from_residual-in_err-totals_csv.result (seen c.args.output.now) (seen c.loop-number.output) c.from_residual-in_err-totals_csv.ensures.1
    (stopped (Left (graph_of c.args.model.now) c.args.options.now c.loop-number.totals c.loop-number.number) _ (seen c.args.output.now) (seen c.loop-number.output) c.loop-number.invariant.0)

-- they are written
pub returns : goal.returns
returns g c =
    let seen = g.K.Sink.seen in
    let graph = graph_of c.args.model.now in
    let options = c.args.options.now in
    let totals = c.loop-number.totals in
    let o = seen c.args.output.now in
    let m = seen c.loop-number.output in
    let p = seen c.write_all.new.output in
    let rows = subst (λ (b : List ℕ). Written b c.write_all.result m p) (c.as_slice-2.ensures ∙ c.in_ok-totals_csv.ensures) c.write_all.ensures in
    at_last (total_rows graph totals) _ c.write_all.result o m p (totals_last graph options totals c.loop-number.number _ o m (omega (arith, c.loop-number-test.false)) c.loop-number.invariant.0)
    (whole_piece (total_rows graph totals) c.write_all.result m p rows)
