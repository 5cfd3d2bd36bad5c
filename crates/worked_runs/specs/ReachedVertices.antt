-- A model of five vertices: two that lead to one another, and to which no other leads.
use Rattle.std.specs.Prelude.{ℕ, List, [], ◌∷◌, codes}
use Rattle.model_core.specs.EventGraph.{EventGraph, EventVertex, EventEdge, CancelAll, WatchedVertex}
use Rattle.worked_runs.specs.Building.{plain_edge, urgent, event}

-- an edge that cancels all events of a vertex
abbrev pub cancelling_all : ℕ → EventEdge
cancelling_all target = plain_edge CancelAll target []

abbrev pub of_vertices : ℕ → List EventVertex → EventGraph
of_vertices watched vertices = record {
  name = codes "FIVE";
  variables = [];
  tables = [];
  watch = WatchedVertex watched ∷ [];
  vertices = vertices;
}

-- RUN cancels CUT alone; LOST and GONE lead to one another, and GONE to CUT; SEEN is watched, and leads to CUT
abbrev pub five : EventGraph
five = of_vertices 4 (event (codes "RUN") [] (cancelling_all 3 ∷ []) ∷ event (codes "LOST") [] (urgent 2 ∷ []) ∷ event (codes "GONE") [] (urgent 1 ∷ urgent 3 ∷ []) ∷ event (codes "CUT") [] [] ∷ event (codes "SEEN") [] (urgent 3 ∷ []) ∷ [])

-- CUT and SEEN are numbered anew
abbrev pub three : EventGraph
three = of_vertices 2 (event (codes "RUN") [] (cancelling_all 1 ∷ []) ∷ event (codes "CUT") [] [] ∷ event (codes "SEEN") [] (urgent 1 ∷ []) ∷ [])
