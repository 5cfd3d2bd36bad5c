-- Conditions that compare Y, edges at once, and models in which one of two events that follow at once differs in one thing.
use Rattle.std.specs.Prelude.{ℕ, Bool, List, [], ◌∷◌, map, codes, replicate}
use Rattle.model_core.specs.EventGraph.{EventGraph, Scalar, Binary, Operator, Equal, NotEqual, Below, AtMost, Above, AtLeast, Urgent, Set, StateChange, EventEdge, EventVertex, Watched}
use Rattle.model_core.specs.Rules.Exclusive.{exclusive}
use Rattle.worked_runs.specs.Building.{ranged, whole, set, at_variable, plain_edge, schedule, urgent, only_if, event, takes, x_watched}
use Rattle.worked_runs.specs.BoundedModel.{bounded, y}

abbrev pub six_comparisons : List Operator
six_comparisons = Equal ∷ NotEqual ∷ Below ∷ AtMost ∷ Above ∷ AtLeast ∷ []

-- Y, which is -5 to 7, is compared in each way with the one number and in each with the other: whether the two conditions
-- are exclusive
abbrev pub compared_with : ℕ → ℕ → List (List Bool)
compared_with m n = map (λ p. map (λ q. exclusive bounded (Binary p y (whole m)) (Binary q y (whole n))) six_comparisons) six_comparisons

-- at once, where Y is this number
abbrev pub when_y_is : ℕ → ℕ → EventEdge
when_y_is n target = only_if (Binary Equal (Scalar 0) (whole n)) (urgent target)

-- a model of X and Z in 0..9, of which X is watched or isn't
abbrev pub followed : List Watched → List EventVertex → EventGraph
followed watch vertices = record {
  name = codes "AT_ONCE";
  variables = ranged (codes "X") 0 9 0 ∷ ranged (codes "Z") 0 9 0 ∷ [];
  tables = [];
  watch = watch;
  vertices = vertices;
}

-- ---- merging whole: FIRST takes X, schedules RUN, then gives X and 2 to NEXT at once, and schedules LAST

abbrev pub first_event : EventVertex
first_event =
    takes (0 ∷ [])
    (event (codes "FIRST") (set 0 (whole 1) ∷ set 0 (whole 2) ∷ []) (schedule 0 (whole 3) ∷ plain_edge Urgent 2 (Scalar 0 ∷ whole 2 ∷ []) ∷ schedule 3 (whole 4) ∷ []))

abbrev pub next_event : EventVertex
next_event = takes (0 ∷ 1 ∷ []) (event (codes "NEXT") (set 1 (whole 5) ∷ set 0 (whole 6) ∷ []) (schedule 3 (whole 7) ∷ schedule 0 (whole 8) ∷ []))

-- X and Z take what FIRST gives
abbrev pub given_to_next : StateChange
given_to_next = Set (at_variable 0 ∷ at_variable 1 ∷ []) (Scalar 0 ∷ whole 2 ∷ [])

abbrev pub both_events : EventVertex
both_events =
    takes (0 ∷ [])
    (event (codes "FIRST")
    (set 0 (whole 1) ∷ set 0 (whole 2) ∷ given_to_next ∷ set 1 (whole 5) ∷ set 0 (whole 6) ∷ [])
    (schedule 0 (whole 3) ∷ schedule 3 (whole 4) ∷ schedule 3 (whole 7) ∷ schedule 0 (whole 8) ∷ []))

abbrev pub in_four : EventVertex → EventGraph
in_four v = followed x_watched (event (codes "RUN") [] [] ∷ v ∷ next_event ∷ event (codes "LAST") [] [] ∷ [])

-- ---- RUN, and NEXT at once, which sets X or Z

abbrev pub run_then : List Watched → List EventEdge → EventVertex → EventGraph
run_then watch more next = followed watch (event (codes "RUN") [] (urgent 1 ∷ more) ∷ next ∷ event (codes "LAST") [] [] ∷ [])

abbrev pub sets_z : EventVertex
sets_z = event (codes "NEXT") (set 1 (whole 1) ∷ []) []

-- RUN has so many edges besides, and NEXT so many
abbrev pub with_many_edges : ℕ → ℕ → EventGraph
with_many_edges of_run of_next = run_then [] (replicate of_run (schedule 2 (whole 1))) (event (codes "NEXT") [] (replicate of_next (schedule 2 (whole 1))))
