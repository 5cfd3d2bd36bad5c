use Rattle.std.proofs.Common.{◌≡◌, ◌+◌, ◌≤◌, ◌^◌, ◌++◌, map, drop}
use Rattle.std.specs.Prelude.{sum}
use Rattle.sig_base.specs.RunningSums.{running_sums}
use Rattle.sig_base.proofs.table.sums_of.Given as goal

-- where the sum is small, the sums so far and those to come are all, and so are the weights
abbrev pub invariant-loop-row : goal.invariant-loop-row
invariant-loop-row l =
    let all = map (λ r. r.weight) l.rows in
    let later = map (λ r. r.weight) (drop l.row-index l.rows) in
    sum all ≤ 2 ^ 32 → record {
      sums : l.sums.items ++ running_sums l.sum later ≡ running_sums 0 all;
      weights : l.sum + sum later ≡ sum all;
    }
