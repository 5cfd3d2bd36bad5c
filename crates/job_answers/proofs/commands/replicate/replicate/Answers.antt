use Rattle.std.proofs.Common.{List, ℤ, Result, sym, subst}
use Rattle.std.specs.Prelude.{IsTrue}
use Rattle.run_control.specs.Beginning.{RefusesStart}
use Rattle.job_answers.specs.ReplicateAnswer.{report}
use Rattle.job_answers.specs.Inner.WritingSteps.{WritesPieces}
use Rattle.job_answers.proofs.ModelTerms.{graph_of, allowed}
use Rattle.job_answers.proofs.AnswerTerms.{Failure, DeliveryOutcome, done}
use Rattle.job_answers.proofs.PiecesWritten.{passed_failure}
use Rattle.job_answers.proofs.commands.ReplicateLaws.{DeliversReport, report_broken, report_closed}
use Rattle.job_answers.proofs.StartLaws.{start_refused}
use Rattle.job_answers.proofs.commands.replicate.replicate.Goals as goal

-- a valid model can be run
pub check_starts-requires : goal.check_starts-requires
check_starts-requires g c =
    let kept = (c.validity_is_by_parts.ensures.by_parts (graph_of c.args.model.now)).0 c.requires.valid in
    c.kept_models_can_be_run.ensures (graph_of c.args.model.now) kept.0 kept.1

pub returns-in-Err : goal.returns-in-Err
returns-in-Err g c =
    let graph = graph_of c.args.model.now in
    let options = c.args.options.now in
    start_refused g.K.Sink.seen graph options.starts (done (report graph options)) (Unit {0}) c.in-Err.error c.refuse_start.result c.args.output.now
    (λ line is. subst (λ (starts : List ℤ). RefusesStart graph starts c.in-Err.error) c.as_slice.ensures c.in-Err.ensures.err) c.refuse_start.ensures

pub returns-in_err-write_report-in-Ok : goal.returns-in_err-write_report-in-Ok
returns-in_err-write_report-in-Ok g c =
    let seen = g.K.Sink.seen in
    let graph = graph_of c.args.model.now in
    let options = c.args.options.now in
    let taken = subst (λ (starts : List ℤ). IsTrue (allowed graph starts)) c.as_slice.ensures c.in-Ok.ensures.ok in
    let o = c.args.output.now in
    let p = c.write_report.new.output in
    let (f, passed, broken) = passed_failure (report graph options) c.write_report.result c.from_residual.result c.in_err-write_report-in-Ok.field-0.0 (seen o) (seen p) c.in_err-write_report-in-Ok.was c.from_residual.ensures.1 c.write_report.ensures in
    subst (λ (r : Result DeliveryOutcome Failure). DeliversReport seen graph options taken r o p) (sym passed) (report_broken seen graph options taken f o p broken)

pub returns-in_ok-write_report-in-Ok : goal.returns-in_ok-write_report-in-Ok
returns-in_ok-write_report-in-Ok g c =
    let seen = g.K.Sink.seen in
    let graph = graph_of c.args.model.now in
    let options = c.args.options.now in
    let taken = subst (λ (starts : List ℤ). IsTrue (allowed graph starts)) c.as_slice.ensures c.in-Ok.ensures.ok in
    let o = c.args.output.now in
    let m = c.write_report.new.output in
    report_closed seen graph options taken c.close.result o m c.close.new.output
    (subst (λ (r : Result Unit Failure). WritesPieces (report graph options) r (seen o) (seen m)) c.in_ok-write_report-in-Ok.was c.write_report.ensures) c.close.ensures
