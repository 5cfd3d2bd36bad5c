use Rattle.std.proofs.Common.{◌≡◌, ℕ, ◌++◌, map, take, drop, All}
use Rattle.tally_report.specs.Inner.Sums.{IsSmall}
use Rattle.tally_report.specs.Inner.Sums.{sum_on}
use Rattle.tally_report.proofs.sums.count_at.Given as goal

abbrev pub invariant-loop-i : goal.invariant-loop-i
invariant-loop-i l =
    (l.sums.items ≡ map (sum_on l.place) (take l.i l.initial.sums.items) ++ drop l.i l.initial.sums.items)
    × ((ticks : ℕ) → All (λ s. IsSmall ticks s.item) l.initial.sums.items → All (λ s. IsSmall ticks s.item) l.sums.items)
