-- One number more.
use Rattle.std.proofs.lemmas.List.{take_more}
use Rattle.conflict_report.proofs.NumbersNoted.{hold-number_more}
use Rattle.conflict_report.proofs.holders.Holders.put_all.Goals as goal

pub loop-number-preserved : goal.loop-number-preserved
loop-number-preserved c =
    hold-number_more _ _ c.args.vertex _ c.args.self.now c.loop-number.self c.put.new.self (take_more c.args.numbers.now c.loop-number.number-index 0 c.loop-number-test.true) c.loop-number.invariant c.in_ok-put.ensures
