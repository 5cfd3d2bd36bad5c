use Rattle.std.proofs.Common.{take}
use Rattle.conflict_report.specs.Inner.NumberHolders.{HoldMore, only_at}
use Rattle.conflict_report.proofs.holders.Holders.put_all.Given as goal

abbrev pub invariant-loop-number : goal.invariant-loop-number
invariant-loop-number l = HoldMore (only_at l.vertex (take l.number-index l.numbers)) l.initial.self l.self
