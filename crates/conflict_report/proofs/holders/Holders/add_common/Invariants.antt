use Rattle.std.proofs.Common.{◌≡◌, ℕ, ◌&&◌, ◌||◌}
use Rattle.std.specs.List.{range_with_len, list_any}
use Rattle.conflict_report.specs.Inner.NumberHolders.{has_vertex, holds}
use Rattle.conflict_report.proofs.holders.Holders.add_common.Given as goal

abbrev pub invariant-loop-number : goal.invariant-loop-number
invariant-loop-number l =
    (j : ℕ) → has_vertex l.found j ≡ (has_vertex l.initial.found j || list_any (λ k. holds l.self k l.vertex && holds l.others k j) (range_with_len 0 l.number))
