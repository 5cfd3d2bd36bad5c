use Rattle.std.proofs.Common.{◌≡◌, ℕ, ◌+◌, ◌-◌, length}
use Rattle.conflict_report.specs.Inner.NumberHolders.{holds}
use Rattle.conflict_report.proofs.holders.Holders.reach.Given as goal

abbrev pub invariant-sets : goal.invariant-sets
invariant-sets l = (k j : ℕ) → holds l.self-inside.sets.items k j ≡ holds l.initial.self-inside.sets.items k j

abbrev pub decreases-sets : goal.decreases-sets
decreases-sets l = l.number + 1 - length l.self-inside.sets.items
