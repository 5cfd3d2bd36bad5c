use Rattle.std.proofs.Common.{◌≡◌, ◌++◌, map}
use Rattle.std.specs.List.{range_with_len}
use Rattle.tally_report.specs.Inner.Sums.{cell_sum}
use Rattle.tally_report.proofs.sums.add_cells.Given as goal

abbrev pub invariant-loop-index : goal.invariant-loop-index
invariant-loop-index l = l.sums.items ≡ l.initial.sums.items ++ map (cell_sum l.place) (range_with_len 0 l.index)
