-- A comma and one phrase more are read, or they can't be read, or no comma comes.
use Rattle.std.proofs.Common.{refl, sym, arith}
use Rattle.std.proofs.lemmas.Result.{err_from_is_err_and}
use Rattle.model_core.specs.declared.token.Symbol.TheVariants.{Comma}
use Rattle.model_core.specs.Text.Format.{ASymbol, mark, ◌*>◌}
use Rattle.text_laws.proofs.ReadLoop.{shorter, begins-one, goes_on, ends, is_done}
use Rattle.model_read.proofs.phrase.and_others.Goals as goal

pub returns-in_err-next : goal.returns-in_err-next
returns-in_err-next g c =
    let p = err_from_is_err_and c.from_residual.result c.from_residual.ensures.1 in
    rw (p.1, p.2) (λ is. ends g.T.Phrase.plain (mark Comma *> g.T.Phrase.format) refl c.loop-alloc.all c.loop-alloc.cursor c.next.new.cursor _
    (begins-one (ASymbol Comma) c.loop-alloc.cursor _ (sym c.loop-alloc-test.ensures)) c.loop-alloc.invariant (c.in_err-next.ensures is))

pub loop-alloc-smaller : goal.loop-alloc-smaller
loop-alloc-smaller g c = let s = shorter (mark Comma *> g.T.Phrase.format) refl c.loop-alloc.cursor _ c.next.new.cursor c.in_ok-next.ensures in omega arith

pub loop-alloc-preserved : goal.loop-alloc-preserved
loop-alloc-preserved g c =
    rw c.in_ok-push.ensures.ok (goes_on g.T.Phrase.plain (mark Comma *> g.T.Phrase.format) refl c.loop-alloc.all c.in_ok-next.field-0 c.loop-alloc.cursor c.next.new.cursor _
    (begins-one (ASymbol Comma) c.loop-alloc.cursor _ (sym c.loop-alloc-test.ensures)) c.in_ok-next.ensures c.loop-alloc.invariant)

pub returns : goal.returns
returns g c = rw c.packed.ensures (is_done g.T.Phrase.plain (mark Comma *> g.T.Phrase.format) refl c.loop-alloc.all c.loop-alloc.cursor _ (begins-one (ASymbol Comma) c.loop-alloc.cursor _ (sym c.loop-alloc-test.ensures)) c.loop-alloc.invariant)
