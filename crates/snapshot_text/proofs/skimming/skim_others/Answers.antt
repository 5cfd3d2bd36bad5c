-- A comma and one phrase more are passed over, or they can't be passed over, or no comma comes.
use Rattle.std.proofs.Common.{refl, sym, ◌∙◌, arith}
use Rattle.std.proofs.lemmas.Result.{err_from_is_err_and}
use Rattle.model_core.specs.declared.token.Symbol.TheVariants.{Comma}
use Rattle.model_core.specs.Text.Format.{ASymbol, mark, ◌*>◌}
use Rattle.text_laws.proofs.ReadLoop.{begins-one}
use Rattle.snapshot_text.proofs.PassingOver.{skims-shorter, skims_on, skims_ends, skims_done}
use Rattle.snapshot_text.proofs.skimming.skim_others.Goals as goal

pub returns-in_err-skim_next : goal.returns-in_err-skim_next
returns-in_err-skim_next g c =
    let p = err_from_is_err_and c.from_residual.result c.from_residual.ensures.1 in
    rw p.1 (sym c.loop-cursor.invariant ∙ skims_ends (mark Comma *> g.T.Phrase.format) refl c.loop-cursor.cursor _ (begins-one (ASymbol Comma) c.loop-cursor.cursor _ (sym c.loop-cursor-test.ensures)) c.in_err-skim_next.ensures)

pub loop-cursor-smaller : goal.loop-cursor-smaller
loop-cursor-smaller g c = let s = skims-shorter (mark Comma *> g.T.Phrase.format) refl c.loop-cursor.cursor _ c.in_ok-skim_next.ensures in omega arith

pub loop-cursor-preserved : goal.loop-cursor-preserved
loop-cursor-preserved g c =
    sym (skims_on (mark Comma *> g.T.Phrase.format) refl c.loop-cursor.cursor _ (begins-one (ASymbol Comma) c.loop-cursor.cursor _ (sym c.loop-cursor-test.ensures)) c.in_ok-skim_next.ensures) ∙ c.loop-cursor.invariant

pub returns : goal.returns
returns g c = sym c.loop-cursor.invariant ∙ skims_done (mark Comma *> g.T.Phrase.format) refl c.loop-cursor.cursor (begins-one (ASymbol Comma) c.loop-cursor.cursor _ (sym c.loop-cursor-test.ensures))
