-- One phrase more is passed over, or it can't be passed over, or no more comes.
use Rattle.std.proofs.Common.{sym, ◌∙◌, arith}
use Rattle.std.proofs.lemmas.Result.{err_from_is_err_and}
use Rattle.snapshot_text.proofs.PassingOver.{skims-shorter, skims_on, skims_ends, skims_done}
use Rattle.snapshot_text.proofs.skimming.skim_many.Goals as goal

pub returns-in_err-skim : goal.returns-in_err-skim
returns-in_err-skim g c =
    let p = err_from_is_err_and c.from_residual.result c.from_residual.ensures.1 in
    rw p.1 (sym c.loop-cursor.invariant ∙ skims_ends g.T.Phrase.format g.T.Phrase.some_tokens c.loop-cursor.cursor _ (sym c.loop-cursor-test.ensures) c.in_err-skim.ensures)

pub loop-cursor-smaller : goal.loop-cursor-smaller
loop-cursor-smaller g c = let s = skims-shorter g.T.Phrase.format g.T.Phrase.some_tokens c.loop-cursor.cursor _ c.in_ok-skim.ensures in omega arith

pub loop-cursor-preserved : goal.loop-cursor-preserved
loop-cursor-preserved g c =
    sym (skims_on g.T.Phrase.format g.T.Phrase.some_tokens c.loop-cursor.cursor _ (sym c.loop-cursor-test.ensures) c.in_ok-skim.ensures) ∙ c.loop-cursor.invariant

pub returns : goal.returns
returns g c = sym c.loop-cursor.invariant ∙ skims_done g.T.Phrase.format g.T.Phrase.some_tokens c.loop-cursor.cursor (sym c.loop-cursor-test.ensures)
