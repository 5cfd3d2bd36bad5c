-- One phrase more is read, or it can't be read, or no more comes.
use Rattle.std.proofs.Common.{sym, arith}
use Rattle.std.proofs.lemmas.Result.{err_from_is_err_and}
use Rattle.text_laws.proofs.ReadLoop.{shorter, goes_on, ends, is_done}
use Rattle.model_read.proofs.phrase.and_more.Goals as goal

pub returns-in_err-read : goal.returns-in_err-read
returns-in_err-read g c =
    let p = err_from_is_err_and c.from_residual.result c.from_residual.ensures.1 in
    rw (p.1, p.2) (λ is. ends g.T.Phrase.plain g.T.Phrase.format g.T.Phrase.some_tokens c.loop-alloc.all c.loop-alloc.cursor c.read.new.cursor _ (sym c.loop-alloc-test.ensures) c.loop-alloc.invariant (c.in_err-read.ensures is))

pub loop-alloc-smaller : goal.loop-alloc-smaller
loop-alloc-smaller g c = let s = shorter g.T.Phrase.format g.T.Phrase.some_tokens c.loop-alloc.cursor _ c.read.new.cursor c.in_ok-read.ensures in omega arith

pub loop-alloc-preserved : goal.loop-alloc-preserved
loop-alloc-preserved g c =
    rw c.in_ok-push.ensures.ok (goes_on g.T.Phrase.plain g.T.Phrase.format g.T.Phrase.some_tokens c.loop-alloc.all c.in_ok-read.field-0 c.loop-alloc.cursor c.read.new.cursor _ (sym c.loop-alloc-test.ensures) c.in_ok-read.ensures c.loop-alloc.invariant)

pub returns : goal.returns
returns g c = rw c.packed.ensures (is_done g.T.Phrase.plain g.T.Phrase.format g.T.Phrase.some_tokens c.loop-alloc.all c.loop-alloc.cursor _ (sym c.loop-alloc-test.ensures) c.loop-alloc.invariant)
