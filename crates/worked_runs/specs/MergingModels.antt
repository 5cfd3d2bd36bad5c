-- Models in which an event schedules another at once, and what merging the two leaves.
use Rattle.std.specs.Prelude.{ℕ, List, [], ◌∷◌, codes, replicate}
use Rattle.model_core.specs.EventGraph.{EventGraph, EventVertex, EventEdge, Variable, Expression, Scalar, Not, Binary, Equal, Below, Urgent, CancelNext, Watched, WatchedVariable}
use Rattle.worked_runs.specs.Building.{ranged, whole, set, schedule, plain_edge, urgent, only_if, event, takes, positive, minus_one, x_watched}
use Rattle.worked_runs.specs.Models.{bank, bank_enter, bank_start, bank_leave}

-- one variable, and these vertices
abbrev pub of_one : Variable → List Watched → List EventVertex → EventGraph
of_one v watch vertices = record { name = codes "M"; variables = v ∷ []; tables = []; watch = watch; vertices = vertices }

-- ---- a chain of three events at once

abbrev pub chain_of : List EventVertex → EventGraph
chain_of vertices = of_one (ranged (codes "N") 0 9 0) (WatchedVariable 0 ∷ []) vertices

abbrev pub chain_run : EventVertex
chain_run = event (codes "RUN") [] (urgent 1 ∷ [])

abbrev pub three_at_once : EventGraph
three_at_once = chain_of (chain_run ∷ event (codes "A") (set 0 (whole 1) ∷ []) (urgent 2 ∷ []) ∷ event (codes "B") (set 0 (whole 2) ∷ []) [] ∷ [])

-- A does what B does as well
abbrev pub chain_merged : EventGraph
chain_merged = chain_of (chain_run ∷ event (codes "A") (set 0 (whole 1) ∷ set 0 (whole 2) ∷ []) [] ∷ event (codes "B") (set 0 (whole 2) ∷ []) [] ∷ [])

-- ---- the bank, whose first event lets the first customer in

abbrev pub bank_merged : EventGraph
bank_merged = record bank { vertices = takes (1 ∷ []) (record bank_enter { name = codes "RUN" }) ∷ bank_enter ∷ bank_start ∷ bank_leave ∷ [] }

-- ---- a choice between two events at once

-- P schedules A where X > 0, and B under this condition
abbrev pub choosing : Expression → EventGraph
choosing condition =
    of_one (ranged (codes "X") 0 9 3) (WatchedVariable 0 ∷ [])
    (event (codes "RUN") [] (urgent 1 ∷ []) ∷
    event (codes "P") [] (only_if (positive 0) (urgent 2) ∷ only_if condition (urgent 3) ∷ []) ∷
    event (codes "A") [] [] ∷
    event (codes "B") [] [] ∷
    [])

abbrev pub not_positive : Expression
not_positive = Not (positive 0)

abbrev pub is_zero : Expression
is_zero = Binary Equal (Scalar 0) (whole 0)

abbrev pub below_five : Expression
below_five = Binary Below (Scalar 0) (whole 5)

-- ---- RUN, B at once and C

-- RUN schedules B at once, which takes X as this value, and has these edges besides
abbrev pub giving : Expression → List Watched → List EventEdge → EventGraph
giving value watch others =
    of_one (ranged (codes "X") 0 9 0) watch
    (event (codes "RUN") [] (plain_edge Urgent 1 (value ∷ []) ∷ others) ∷
    takes (0 ∷ []) (event (codes "B") [] []) ∷
    event (codes "C") [] [] ∷
    [])

-- B takes X as 1
abbrev pub with_others : List Watched → List EventEdge → EventGraph
with_others watch others = giving (whole 1) watch others

abbrev pub cancels_next : ℕ → EventEdge
cancels_next target = plain_edge CancelNext target []

-- RUN has no change, and then sets X to 1 in place of giving it to B
abbrev pub with_others_merged : EventGraph
with_others_merged =
    of_one (ranged (codes "X") 0 9 0) x_watched
    (event (codes "RUN") (set 0 (whole 1) ∷ []) (schedule 2 (whole 3) ∷ []) ∷
    takes (0 ∷ []) (event (codes "B") [] []) ∷
    event (codes "C") [] [] ∷
    [])

-- ---- RUN and what it schedules at once, which counts S down

abbrev pub counting_down : List Watched → EventGraph
counting_down watch =
    of_one (ranged (codes "S") 0 2 2) watch
    (event (codes "RUN") [] (urgent 1 ∷ []) ∷
    event (codes "B") (set 0 (minus_one 0) ∷ []) [] ∷
    [])

-- ---- RUN, and B at once, which sets X

-- RUN has so many changes, and these edges besides
abbrev pub then_set : ℕ → List EventEdge → EventGraph
then_set count others =
    of_one (ranged (codes "X") 0 9 0) x_watched
    (event (codes "RUN") (replicate count (set 0 (whole 1))) (urgent 1 ∷ others) ∷
    event (codes "B") (set 0 (whole 1) ∷ []) [] ∷
    [])

-- ---- the chain under a name of so many bytes

abbrev pub long_named : ℕ → EventGraph
long_named bytes = record three_at_once { name = replicate bytes 78 }
