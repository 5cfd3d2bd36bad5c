-- One application more is read, or it can't be read, or no more comes.
use Rattle.std.proofs.Common.{sym, arith}
use Rattle.std.proofs.lemmas.Result.{err_from_is_err_and}
use Rattle.model_core.specs.Code.Views.{application_of}
use Rattle.model_core.specs.Text.CertificateText.{application_format}
use Rattle.text_laws.proofs.ReadLoop.{shorter, goes_on, ends, is_done}
use Rattle.reduction_cert.proofs.CertificateReads.{application-some}
use Rattle.reduction_cert.proofs.reading.applications.Goals as goal

pub returns-in_err-application : goal.returns-in_err-application
returns-in_err-application c =
    let p = err_from_is_err_and c.from_residual.result c.from_residual.ensures.1 in
    rw (p.1, p.2) (λ is. ends application_of application_format application-some c.loop-alloc.all c.loop-alloc.cursor c.application.new.cursor _ (sym c.loop-alloc-test.ensures) c.loop-alloc.invariant (c.in_err-application.ensures is))

pub loop-alloc-smaller : goal.loop-alloc-smaller
loop-alloc-smaller c = let s = shorter application_format application-some c.loop-alloc.cursor _ c.application.new.cursor c.in_ok-application.ensures in omega arith

pub loop-alloc-preserved : goal.loop-alloc-preserved
loop-alloc-preserved c =
    rw c.in_ok-push.ensures.ok (goes_on application_of application_format application-some c.loop-alloc.all c.in_ok-application.field-0 c.loop-alloc.cursor c.application.new.cursor _ (sym c.loop-alloc-test.ensures) c.in_ok-application.ensures c.loop-alloc.invariant)

pub returns : goal.returns
returns c = is_done application_of application_format application-some c.loop-alloc.all c.loop-alloc.cursor _ (sym c.loop-alloc-test.ensures) c.loop-alloc.invariant
