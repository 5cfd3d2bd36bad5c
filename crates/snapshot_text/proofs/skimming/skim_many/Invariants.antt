use Rattle.std.proofs.Common.{◌≡◌, length}
use Rattle.model_core.specs.Text.Format.{Many}
use Rattle.snapshot_text.specs.Inner.Skimming.{skims}
use Rattle.snapshot_text.proofs.skimming.skim_many.Given as goal

abbrev pub invariant-loop-cursor : goal.invariant-loop-cursor
invariant-loop-cursor g l = skims (Many g.T.Phrase.format) l.cursor ≡ skims (Many g.T.Phrase.format) l.fn.cursor

abbrev pub decreases-loop-cursor : goal.decreases-loop-cursor
decreases-loop-cursor g l = length l.cursor
