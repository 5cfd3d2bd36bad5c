-- Pending events of two vertices, entries that differ in one thing each, and a model in which one of two events faults.
use Rattle.std.specs.Prelude.{pos, List, [], ◌∷◌, codes}
use Rattle.model_core.specs.EventGraph.{EventGraph}
use Rattle.model_core.specs.Run.Pending.{Entry}
use Rattle.worked_runs.specs.Building.{ranged, set, event, one_over_zero}
use Rattle.worked_runs.specs.TwoEvents.{soon, three_events}

abbrev pub four_soon : List Entry
four_soon = soon 1 ∷ soon 2 ∷ soon 1 ∷ soon 2 ∷ []

-- an entry, and others with another time, priority, vertex, value, and with one value more and one less
abbrev pub entries_apart : List Entry
entries_apart =
    record { time = 5; priority = 4; vertex = 3; values = pos 2 ∷ [] } ∷
    record { time = 6; priority = 4; vertex = 3; values = pos 2 ∷ [] } ∷
    record { time = 5; priority = 5; vertex = 3; values = pos 2 ∷ [] } ∷
    record { time = 5; priority = 4; vertex = 4; values = pos 2 ∷ [] } ∷
    record { time = 5; priority = 4; vertex = 3; values = pos 3 ∷ [] } ∷
    record { time = 5; priority = 4; vertex = 3; values = pos 2 ∷ pos 2 ∷ [] } ∷
    []

-- A divides by 0, and B does nothing
abbrev pub dividing : EventGraph
dividing = three_events (ranged (codes "X") 0 9 0 ∷ []) (event (codes "A") (set 0 one_over_zero ∷ []) []) (event (codes "B") [] [])
