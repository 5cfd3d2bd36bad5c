-- One name more is read, or it can't be read, or no more comes.
use Rattle.std.proofs.Common.{sym, arith}
use Rattle.std.proofs.lemmas.Result.{err_from_is_err_and}
use Rattle.model_core.specs.Text.CertificateText.{plain_name_format}
use Rattle.text_laws.proofs.ReadLoop.{shorter}
use Rattle.reduction_cert.proofs.CertificateReads.{name-some, name-goes_on, name-ends, name-done}
use Rattle.reduction_cert.proofs.reading.and_more_names.Goals as goal

pub returns-in_err-name : goal.returns-in_err-name
returns-in_err-name c =
    let p = err_from_is_err_and c.from_residual.result c.from_residual.ensures.1 in
    rw (p.1, p.2) (name-ends c.loop-alloc.all c.loop-alloc.cursor c.name.new.cursor _ c.in_err-name.field-0.0 (sym c.loop-alloc-test.ensures) c.in_err-name.ensures c.loop-alloc.invariant)

pub loop-alloc-smaller : goal.loop-alloc-smaller
loop-alloc-smaller c = let s = shorter plain_name_format name-some c.loop-alloc.cursor _ c.name.new.cursor c.in_ok-name.ensures in omega arith

pub loop-alloc-preserved : goal.loop-alloc-preserved
loop-alloc-preserved c =
    rw c.in_ok-push.ensures.ok (name-goes_on c.loop-alloc.all c.in_ok-name.field-0 c.loop-alloc.cursor c.name.new.cursor _ (sym c.loop-alloc-test.ensures) c.in_ok-name.ensures c.loop-alloc.invariant)

pub returns : goal.returns
returns c = name-done c.loop-alloc.all c.loop-alloc.cursor _ (sym c.loop-alloc-test.ensures) c.loop-alloc.invariant
