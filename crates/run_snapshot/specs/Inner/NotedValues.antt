-- The values that a tracer takes as those noted last.
use Rattle.std.specs.Prelude.{◌≡◌, ℤ, List, length, sum, Option, option_map, IfSome}
use Rattle.model_core.specs.EventGraph.{EventGraph}
use Rattle.model_core.specs.Saved.Cells.{watched_sizes, cut_up}

-- there is one for each watched cell
abbrev pub FitWatched : EventGraph → Option (List ℤ) → Type 0
FitWatched g noted = IfSome noted (λ values. length values ≡ sum (watched_sizes g g.watch))

abbrev pub noted_as_cells : EventGraph → Option (List ℤ) → Option (List (List ℤ))
noted_as_cells g noted = option_map (cut_up (watched_sizes g g.watch)) noted
