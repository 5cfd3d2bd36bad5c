use Rattle.std.proofs.Common.{◌≡◌, ◌++◌, map, take, drop, length}
use Rattle.std.specs.List.{flat_map}
use Rattle.model_core.specs.Code.Views.{graph_of, watched_of}
use Rattle.tally_report.specs.ReportText.{names_watched, item_rows}
use Rattle.tally_report.specs.Inner.Headings.{heading_of}
use Rattle.tally_report.proofs.report.put_items.Given as goal

abbrev pub invariant-loop-watch : goal.invariant-loop-watch
invariant-loop-watch l =
    (l.out ≡ l.initial.out ++ item_rows (heading_of l.head) (flat_map (names_watched (graph_of l.model)) (map watched_of (take l.watch-index l.model.watch))) l.items)
    × (l.left ≡ drop (length (flat_map (names_watched (graph_of l.model)) (map watched_of (take l.watch-index l.model.watch)))) l.items)
