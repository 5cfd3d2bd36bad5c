use Rattle.std.proofs.Common.{◌≡◌, map, take, All}
use Rattle.tally_report.specs.Inner.Sums.{IsSmall}
use Rattle.tally_report.specs.Inner.Sums.{held_until}
use Rattle.tally_report.proofs.sums.items_until.Given as goal

abbrev pub invariant-loop-sum : goal.invariant-loop-sum
invariant-loop-sum l =
    (l.items.items ≡ map (λ s. held_until l.since l.time s.item) (take l.sum-index l.sums)) × All (IsSmall l.time) l.items.items
