-- One number more is looked at.
use Rattle.conflict_report.specs.Inner.NumberHolders.{has_vertex}
use Rattle.conflict_report.proofs.NumbersNoted.{common-more}
use Rattle.conflict_report.proofs.holders.Holders.add_common.Goals as goal

pub loop-number-preserved : goal.loop-number-preserved
loop-number-preserved c = λ j.
    common-more c.args.self.now c.args.others.now c.args.vertex j c.loop-number.number (has_vertex c.loop-number.found j) (has_vertex c.add_if_held.new.found j) (has_vertex c.args.found.now j) (c.in_ok-add_if_held.ensures j) (c.loop-number.invariant j)
