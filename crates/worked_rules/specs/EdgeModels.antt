-- Models whose edges can be pruned or settled at several places, and whose vertices are reached one from the other.
use Rattle.std.specs.Prelude.{false, List, [], ◌∷◌, codes}
use Rattle.model_core.specs.EventGraph.{EventGraph, Scalar, Truth, Binary, Divide, Below, AtLeast, CancelNext, CancelEqual, CancelAll, EventEdge, EventVertex, Watched, WatchedVariable, WatchedVertex}
use Rattle.worked_runs.specs.Building.{ranged, whole, plain_edge, schedule, urgent, only_if, event, positive, x_watched}

-- a model of X in 0..9
abbrev pub over_x : List Watched → List EventVertex → EventGraph
over_x watch vertices = record { name = codes "EDGES"; variables = ranged (codes "X") 0 9 0 ∷ []; tables = []; watch = watch; vertices = vertices }

-- an edge that is never taken, one that always is, one that may be, and one that is always taken where its condition doesn't
-- fault
abbrev pub never : EventEdge
never = only_if (Binary Below (Scalar 0) (whole 0)) (schedule 0 (whole 1))

abbrev pub always : EventEdge
always = only_if (Binary AtLeast (Scalar 0) (whole 0)) (schedule 0 (whole 1))

abbrev pub perhaps : EventEdge
perhaps = only_if (positive 0) (schedule 0 (whole 1))

abbrev pub if_no_fault : EventEdge
if_no_fault = only_if (Binary Below (Binary Divide (whole 5) (Scalar 0)) (whole 9)) (schedule 0 (whole 1))

abbrev pub literally : EventEdge
literally = schedule 0 (whole 1)

-- edges to prune at the second of the second vertex and at the first of the third, edges to settle at the third and at the
-- second
abbrev pub at_several_places : EventGraph
at_several_places =
    over_x x_watched
    (event (codes "RUN") [] (perhaps ∷ literally ∷ if_no_fault ∷ []) ∷
    event (codes "A") [] (perhaps ∷ never ∷ always ∷ never ∷ []) ∷
    event (codes "B") [] (never ∷ always ∷ []) ∷
    [])

-- without the first that may be pruned, and with the first that may be settled
abbrev pub one_pruned : EventGraph
one_pruned =
    over_x x_watched
    (event (codes "RUN") [] (perhaps ∷ literally ∷ if_no_fault ∷ []) ∷
    event (codes "A") [] (perhaps ∷ always ∷ never ∷ []) ∷
    event (codes "B") [] (never ∷ always ∷ []) ∷
    [])

abbrev pub one_settled : EventGraph
one_settled =
    over_x x_watched
    (event (codes "RUN") [] (perhaps ∷ literally ∷ if_no_fault ∷ []) ∷
    event (codes "A") [] (perhaps ∷ never ∷ literally ∷ never ∷ []) ∷
    event (codes "B") [] (never ∷ always ∷ []) ∷
    [])

-- RUN leads to the last vertex, and each to the one before it, by an edge of another kind; FAR leads to RUN and to itself,
-- and nothing to it; SEEN, which is watched after a variable, leads to NEXT
abbrev pub led : EventGraph
led =
    over_x (WatchedVariable 0 ∷ WatchedVertex 6 ∷ [])
    (event (codes "RUN") [] (perhaps ∷ only_if (Truth false) (schedule 5 (whole 1)) ∷ []) ∷
    event (codes "FAR") [] (urgent 0 ∷ urgent 1 ∷ []) ∷
    event (codes "D") [] [] ∷
    event (codes "C") [] (plain_edge CancelAll 2 [] ∷ []) ∷
    event (codes "B") [] (plain_edge CancelEqual 3 [] ∷ []) ∷
    event (codes "A") [] (plain_edge CancelNext 4 [] ∷ []) ∷
    event (codes "SEEN") [] (urgent 7 ∷ []) ∷
    event (codes "NEXT") [] [] ∷
    event (codes "LOST") [] (urgent 2 ∷ []) ∷
    [])

-- without FAR and LOST
abbrev pub led_alone : EventGraph
led_alone =
    over_x (WatchedVariable 0 ∷ WatchedVertex 5 ∷ [])
    (event (codes "RUN") [] (perhaps ∷ only_if (Truth false) (schedule 4 (whole 1)) ∷ []) ∷
    event (codes "D") [] [] ∷
    event (codes "C") [] (plain_edge CancelAll 1 [] ∷ []) ∷
    event (codes "B") [] (plain_edge CancelEqual 2 [] ∷ []) ∷
    event (codes "A") [] (plain_edge CancelNext 3 [] ∷ []) ∷
    event (codes "SEEN") [] (urgent 6 ∷ []) ∷
    event (codes "NEXT") [] [] ∷
    [])
