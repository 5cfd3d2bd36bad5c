-- A model in which each part of a round finds something, and what a round makes of it.
use Rattle.std.specs.Prelude.{ℕ, List, [], ◌∷◌, codes}
use Rattle.model_core.specs.EventGraph.{EventGraph, Above, EventVertex, EventEdge}
use Rattle.model_core.specs.Rules.Reduction.{RuleApplication, Prune, Drop, Slice}
use Rattle.worked_runs.specs.Building.{ranged, schedule, only_if, event, scalar_is, whole}

abbrev pub still : List ℕ → EventVertex
still name = event name [] []

-- to the first and the second vertex after RUN
abbrev pub to_both : List EventEdge
to_both = schedule 1 (whole 1) ∷ schedule 2 (whole 2) ∷ []

-- X stays 0, so the third edge is never taken, and C is out of reach once it is gone; A and B do the same
abbrev pub with_spare_parts : EventGraph
with_spare_parts = record {
  name = codes "SPARE";
  variables = ranged (codes "X") 0 9 0 ∷ [];
  tables = [];
  watch = [];
  vertices = event (codes "RUN") [] (schedule 1 (whole 1) ∷ schedule 2 (whole 2) ∷ only_if (scalar_is Above 0 5) (schedule 3 (whole 3)) ∷ []) ∷ still (codes "A") ∷ still (codes "B") ∷ still (codes "C") ∷ [];
}

abbrev pub narrower : EventGraph
narrower = record with_spare_parts { variables = ranged (codes "X") 0 0 0 ∷ [] }

-- the rules that a round applies
abbrev pub rules_of_the_round : List RuleApplication
rules_of_the_round = Prune (codes "RUN") 3 ∷ Drop (codes "C" ∷ []) ∷ Slice (codes "X" ∷ []) ∷ []

-- without the edge that is never taken, the vertex that it led to, and the variable that nothing reads any more
abbrev pub without_spare_parts : EventGraph
without_spare_parts = record with_spare_parts {
  variables = [];
  vertices = event (codes "RUN") [] to_both ∷ still (codes "A") ∷ still (codes "B") ∷ [];
}

-- one vertex for the two
abbrev pub plain_form : EventGraph
plain_form = record without_spare_parts { vertices = event (codes "RUN") [] (schedule 1 (whole 1) ∷ schedule 1 (whole 2) ∷ []) ∷ still (codes "A") ∷ [] }
