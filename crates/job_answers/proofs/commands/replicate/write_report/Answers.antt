use Rattle.std.proofs.Common.{◌≡◌, ℕ, ◌+◌, ◌-◌, List, Result, Ok, sym, ◌∙◌, subst, arith}
use Rattle.sig_base.specs.Sink.{Outlet}
use Rattle.command_words.specs.declared.replicate_options.ReplicateOptions.{ReplicateOptions}
use Rattle.tally_report.specs.ReportText.{header_row}
use Rattle.tally_report.specs.Totalling.{RunTotals, no_totals}
use Rattle.job_answers.specs.ReplicateAnswer.{report}
use Rattle.job_answers.specs.Inner.ReportSteps.{rest_of_report, IsWrittenUpTo}
use Rattle.job_answers.specs.Inner.WritingSteps.{WritesPieces}
use Rattle.job_answers.proofs.ModelTerms.{EventGraph, graph_of}
use Rattle.job_answers.proofs.AnswerTerms.{Failure, Written}
use Rattle.job_answers.proofs.PiecesWritten.{at_last, whole_piece, next_piece_fails, further, passed_failure}
use Rattle.job_answers.proofs.commands.ReplicateLaws.{Left, header_first}
use Rattle.job_answers.proofs.commands.replicate.write_report.Goals as goal

-- the header isn't written
pub returns-in_err-write_all : goal.returns-in_err-write_all
returns-in_err-write_all g c =
    let seen = g.K.Sink.seen in
    let graph = graph_of c.args.model.now in
    let options = c.args.options.now in
    let o = seen c.args.output.now in
    let p = seen c.write_all.new.output in
    let (f, passed, broken) = passed_failure header_row c.write_all.result c.from_residual-in_err-write_all.result c.in_err-write_all.field-0.0 o p c.in_err-write_all.was c.from_residual-in_err-write_all.ensures.1
    (whole_piece header_row c.write_all.result o p (subst (λ (b : List ℕ). Written b c.write_all.result o p) (c.as_slice-2.ensures ∙ c.in_ok-header_csv.ensures) c.write_all.ensures)) in
    subst (λ (r : Result Unit Failure). WritesPieces (report graph options) r o p) (sym passed)
    (next_piece_fails header_row (Left graph options (no_totals graph) 1) (report graph options) f o o p (header_first graph options o) broken)

-- the header is, and the runs are left
begun : (graph : EventGraph) (options : ReplicateOptions) (o m : Outlet) → WritesPieces header_row (Ok tt) o m → IsWrittenUpTo (Left graph options (no_totals graph) 1) (report graph options) o m
begun graph options o m h = further header_row (Left graph options (no_totals graph) 1) (report graph options) o o m (header_first graph options o) h

-- they are
pub returns : goal.returns
returns g c =
    let seen = g.K.Sink.seen in
    let graph = graph_of c.args.model.now in
    let options = c.args.options.now in
    let totals = c.in_ok-totals.totals in
    let o = seen c.args.output.now in
    let m = seen c.write_all.new.output in
    let p = seen c.write_all_runs.new.output in
    let header = whole_piece header_row (Ok tt) o m (subst (λ (r : Result Unit Failure). Written header_row r o m) c.in_ok-write_all.was (subst (λ (b : List ℕ). Written b c.write_all.result o m) (c.as_slice-2.ensures ∙ c.in_ok-header_csv.ensures) c.write_all.ensures)) in
    let as_many : options.runs ≡ options.runs + 1 - 1 = omega arith in
    at_last (Left graph options (no_totals graph) 1) (report graph options) c.write_all_runs.result o m p (begun graph options o m header)
    (subst (λ (t : RunTotals). WritesPieces (Left graph options t 1) c.write_all_runs.result m p) c.in_ok-totals.ensures
    (subst (λ (k : ℕ). WritesPieces (rest_of_report graph options totals 1 k) c.write_all_runs.result m p) as_many c.write_all_runs.ensures))
