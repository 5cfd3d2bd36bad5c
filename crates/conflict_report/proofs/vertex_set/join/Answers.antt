-- One word more.
use Rattle.std.proofs.Common.{get_or, sym, arith}
use Rattle.std.specs.Int.Bits.{or_zero_r}
use Rattle.conflict_report.proofs.BitsOfSets.{join-more}
use Rattle.conflict_report.proofs.vertex_set.join.Goals as goal

pub loop-i-init : goal.loop-i-init
loop-i-init c = λ j. sym (or_zero_r (get_or c.args.words.now j 0))

pub loop-i-preserved : goal.loop-i-preserved
loop-i-preserved c =
    join-more c.loop-i.words c.args.words.now c.args.others.now c.loop-i.i (omega (arith, c.requires.long, c.loop-i.auto.words, c.loop-i-test.true)) c.loop-i-test.true c.loop-i.invariant
