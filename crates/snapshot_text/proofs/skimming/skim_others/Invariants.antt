use Rattle.std.proofs.Common.{◌≡◌, length}
use Rattle.model_core.specs.declared.token.Symbol.TheVariants.{Comma}
use Rattle.model_core.specs.Text.Format.{Many, mark, ◌*>◌}
use Rattle.snapshot_text.specs.Inner.Skimming.{skims}
use Rattle.snapshot_text.proofs.skimming.skim_others.Given as goal

abbrev pub invariant-loop-cursor : goal.invariant-loop-cursor
invariant-loop-cursor g l = skims (Many (mark Comma *> g.T.Phrase.format)) l.cursor ≡ skims (Many (mark Comma *> g.T.Phrase.format)) l.fn.cursor

abbrev pub decreases-loop-cursor : goal.decreases-loop-cursor
decreases-loop-cursor g l = length l.cursor
