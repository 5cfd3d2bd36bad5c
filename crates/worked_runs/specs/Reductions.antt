-- A model with edges that never do anything, and what is left of it as they are pruned.
use Rattle.std.specs.Prelude.{false, List, [], ◌∷◌, codes}
use Rattle.model_core.specs.EventGraph.{EventGraph, EventEdge, Truth}
use Rattle.worked_runs.specs.Building.{whole, schedule, forward, only_if, event}

-- an edge back to RUN that never does anything
abbrev pub idle_edge : EventEdge
idle_edge = only_if (Truth false) (schedule 0 (whole 5))

-- RUN leads to A, which has these edges
abbrev pub leading_on : List EventEdge → EventGraph
leading_on edges = record {
  name = codes "IDLE";
  variables = [];
  tables = [];
  watch = [];
  vertices = event (codes "RUN") [] (forward ∷ []) ∷ event (codes "A") [] edges ∷ [];
}

abbrev pub idle : EventGraph
idle = leading_on (idle_edge ∷ forward ∷ idle_edge ∷ [])

abbrev pub once_pruned : EventGraph
once_pruned = leading_on (forward ∷ idle_edge ∷ [])

abbrev pub twice_pruned : EventGraph
twice_pruned = leading_on (forward ∷ [])
