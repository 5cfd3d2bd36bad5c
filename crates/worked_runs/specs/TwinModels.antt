-- A model with two vertices that do the same, and the result of fusing it.
use Rattle.std.specs.Prelude.{List, [], ◌∷◌, codes}
use Rattle.model_core.specs.EventGraph.{EventGraph, EventVertex, EventEdge, Watched}
use Rattle.worked_runs.specs.Building.{ranged, clipped, whole, set, plus_one, schedule, event, x_watched}

-- A and B count, and each schedules the other one
abbrev pub counts : List EventEdge → List EventVertex
counts more =
    event (codes "RUN") [] (schedule 1 (whole 1) ∷ schedule 2 (whole 2) ∷ more) ∷
    event (codes "A") (set 0 (plus_one 0) ∷ []) (schedule 2 (whole 3) ∷ []) ∷
    event (codes "B") (set 0 (plus_one 0) ∷ []) (schedule 1 (whole 3) ∷ []) ∷
    []

-- with this watch list, and with these edges more of the first vertex
abbrev pub twins_with : List Watched → List EventEdge → EventGraph
twins_with watch more = record {
  name = codes "TWINS";
  variables = clipped (ranged (codes "N") 0 9 0) ∷ [];
  tables = [];
  watch = watch;
  vertices = counts more;
}

abbrev pub twins : EventGraph
twins = twins_with x_watched []

-- A is in place of both
abbrev pub one_of_twins : EventGraph
one_of_twins = record twins {
  vertices =
      event (codes "RUN") [] (schedule 1 (whole 1) ∷ schedule 1 (whole 2) ∷ []) ∷
      event (codes "A") (set 0 (plus_one 0) ∷ []) (schedule 1 (whole 3) ∷ []) ∷
      [];
}

-- the first vertex counts too, and B waits 4 ticks in place of 3
abbrev pub unlike : EventGraph
unlike = record twins {
  vertices =
      event (codes "RUN") (set 0 (plus_one 0) ∷ []) [] ∷
      event (codes "A") (set 0 (plus_one 0) ∷ []) (schedule 2 (whole 3) ∷ []) ∷
      event (codes "B") (set 0 (plus_one 0) ∷ []) (schedule 1 (whole 4) ∷ []) ∷
      [];
}
