use Rattle.std.proofs.Common.{◌≡◌, ◌++◌, take, drop}
use Rattle.tally_report.specs.Totalling.{items_added}
use Rattle.tally_report.proofs.totals.add_items.Given as goal

abbrev pub invariant-loop-i : goal.invariant-loop-i
invariant-loop-i l = l.totals.items ≡ items_added (take l.i l.initial.totals.items) l.others ++ drop l.i l.initial.totals.items
