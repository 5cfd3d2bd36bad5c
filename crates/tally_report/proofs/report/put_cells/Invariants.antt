use Rattle.std.proofs.Common.{◌≡◌, ◌++◌, map, drop}
use Rattle.std.specs.List.{range_with_len}
use Rattle.tally_report.specs.ReportText.{cell_name, item_rows}
use Rattle.tally_report.specs.Inner.Headings.{heading_of}
use Rattle.tally_report.proofs.report.put_cells.Given as goal

abbrev pub invariant-loop-index : goal.invariant-loop-index
invariant-loop-index l =
    (l.out ≡ l.initial.out ++ item_rows (heading_of l.head) (map (cell_name l.name) (range_with_len 0 l.index)) l.items)
    × (l.left ≡ drop l.index l.items)
