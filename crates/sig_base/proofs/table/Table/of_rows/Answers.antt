use Rattle.std.proofs.Common.{◌≡◌, ◌≤◌, ◌-◌, ◌^◌, length, map, sum, slice_index_or, ◌∙◌, arith}
use Rattle.sig_base.specs.declared.table.Row.{Row}
use Rattle.sig_base.specs.RunningSums.{running_sums}
use Rattle.sig_base.proofs.SumsSearched.{last_is_sum}
use Rattle.sig_base.proofs.table.Table.of_rows.Goals as goal

pub invariant_of-result : goal.invariant_of-result
invariant_of-result c =
    let weights = map (λ (r : Row). r.weight) c.args.rows in
    let are : sum weights ≤ 2 ^ 32 → c.in_ok-sums.sums ≡ running_sums 0 weights = rw c.as_slice.ensures at c.in_ok-sums.ensures in
    record {
      totalled = λ few. let last : slice_index_or c.as_slice-2.result.now (length c.as_slice-2.result.now - 1) 0 ≡ sum weights = last_is_sum weights c.as_slice-2.result.now (c.as_slice-2.ensures ∙ are few) in omega (arith, c.total-total.ensures.value, last, few);
      summed = are;
      small = c.total-total.ensures.small;
      shifted = c.shift_for-shift.ensures.below;
      started = rw c.as_slice-3.ensures at c.in_ok-starts.ensures;
    }
