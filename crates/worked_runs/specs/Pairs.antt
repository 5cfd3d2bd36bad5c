-- Models two by two, which differ in one thing, and the feature by which sameness distinguishes two models.
use Rattle.std.specs.Prelude.{ℕ, List, [], ◌∷◌, codes}
use Rattle.model_core.specs.EventGraph.{EventGraph, Variable, Expression, Scalar, Binary, Equal, And, StateChange, EventEdge, EventVertex, Watched, WatchedVertex}
use Rattle.model_core.specs.Run.Same.{Same}
use Rattle.worked_runs.specs.Building.{ranged, whole, set, draw, schedule, urgent, only_if, event, takes, plus_one, one_over_zero}

-- neither of two models is the same as the other
abbrev pub Apart : EventGraph → EventGraph → Type 0
Apart g h = (Same g h → ⊥) × (Same h g → ⊥)

-- a model with no tables
abbrev pub small : List Variable → List Watched → List EventVertex → EventGraph
small variables watch vertices = record { name = codes "SMALL"; variables = variables; tables = []; watch = watch; vertices = vertices }

-- ---- a run's standing from clock 5 on

-- A comes at this time, makes these changes of X and has these edges. Nothing is watched
abbrev pub coming_at : ℕ → List StateChange → List EventEdge → EventGraph
coming_at time changes edges =
    small (ranged (codes "X") 0 9 0 ∷ []) []
    (event (codes "RUN") [] (schedule 1 (whole time) ∷ []) ∷ event (codes "A") changes edges ∷ [])

-- A comes at 5
abbrev pub at_five : List StateChange → List EventEdge → EventGraph
at_five changes edges = coming_at 5 changes edges

-- no event follows A
abbrev pub ends : EventGraph
ends = at_five [] []

-- A comes again after each tick
abbrev pub stops : EventGraph
stops = at_five [] (schedule 1 (whole 1) ∷ [])

-- A comes again at once, for ever
abbrev pub goes_on : EventGraph
goes_on = at_five [] (urgent 1 ∷ [])

-- A divides by 0
abbrev pub divides : EventGraph
divides = at_five (set 0 one_over_zero ∷ []) []

-- A leaves the range of X
abbrev pub leaves : EventGraph
leaves = at_five (set 0 (whole 10) ∷ []) []

-- no event follows A, which comes at 4
abbrev pub ends_at_4 : EventGraph
ends_at_4 = coming_at 4 [] []

-- A divides by 0, at 4
abbrev pub divides_at_4 : EventGraph
divides_at_4 = coming_at 4 (set 0 one_over_zero ∷ []) []

-- ---- what a run shows that never leaves clock 0

-- the first event has these edges, and A and B, which are watched, follow one another for ever
abbrev pub rounds : List EventEdge → EventGraph
rounds edges =
    small [] (WatchedVertex 1 ∷ WatchedVertex 2 ∷ [])
    (event (codes "RUN") [] edges ∷ event (codes "A") [] (urgent 2 ∷ []) ∷ event (codes "B") [] (urgent 1 ∷ []) ∷ event (codes "C") [] (urgent 1 ∷ []) ∷ [])

-- A comes first
abbrev pub a_first : EventGraph
a_first = rounds (urgent 1 ∷ [])

-- B comes first
abbrev pub b_first : EventGraph
b_first = rounds (urgent 2 ∷ [])

-- C, which isn't watched, comes ahead of A
abbrev pub a_second : EventGraph
a_second = rounds (urgent 3 ∷ [])

-- the first event comes again at once, for ever
abbrev pub silent : EventGraph
silent = rounds (urgent 0 ∷ [])

-- ---- what is watched, and what a run begins with

-- a variable and a vertex of these names, with this watch list. The first event comes again at once, for ever
abbrev pub watching : List ℕ → List ℕ → List Watched → EventGraph
watching variable_name vertex_name watch =
    small (ranged variable_name 0 9 0 ∷ []) watch (event (codes "RUN") [] (urgent 0 ∷ []) ∷ event vertex_name [] [] ∷ [])

-- the variables X and Y, with this watch list. The first event comes again at once, for ever
abbrev pub watching_two : List Watched → EventGraph
watching_two watch =
    small (ranged (codes "X") 0 9 0 ∷ ranged (codes "Y") 0 9 0 ∷ []) watch (event (codes "RUN") [] (urgent 0 ∷ []) ∷ [])

-- the first event takes this variable, and is the last
abbrev pub asking : Variable → EventGraph
asking x = small (x ∷ []) [] (takes (0 ∷ []) (event (codes "RUN") [] []) ∷ [])

-- ---- what shows in some runs alone

-- A, which is watched, comes after so many ticks
abbrev pub due_after : ℕ → EventGraph
due_after ticks = small [] (WatchedVertex 1 ∷ []) (event (codes "RUN") [] (schedule 1 (whole ticks) ∷ []) ∷ event (codes "A") [] [] ∷ [])

-- the first event takes X in 0..9 and, under this condition, A follows, which is watched
abbrev pub taking_x : Expression → EventGraph
taking_x condition =
    small (ranged (codes "X") 0 9 0 ∷ []) (WatchedVertex 1 ∷ [])
    (takes (0 ∷ []) (event (codes "RUN") [] (only_if condition (urgent 1) ∷ [])) ∷ event (codes "A") [] [] ∷ [])

-- X is this number
abbrev pub equals_x : ℕ → Expression
equals_x n = Binary Equal (Scalar 0) (whole n)

-- X and Y are the first two words of stream 54 and, under this condition, A follows, which is watched
abbrev pub drawing : Expression → EventGraph
drawing condition =
    small (ranged (codes "X") 0 4294967295 0 ∷ ranged (codes "Y") 0 4294967295 0 ∷ []) (WatchedVertex 1 ∷ [])
    (event (codes "RUN") (draw 0 54 0 4294967295 ∷ draw 1 54 0 4294967295 ∷ []) (only_if condition (urgent 1) ∷ []) ∷ event (codes "A") [] [] ∷ [])

-- X and Y are these numbers
abbrev pub equals_x_and_y : ℕ → ℕ → Expression
equals_x_and_y x y = Binary And (equals_x x) (Binary Equal (Scalar 1) (whole y))

-- ---- how many steps a run needs

-- the first event has these edges, and A does nothing. Nothing is watched
abbrev pub nothing_more : List EventEdge → EventGraph
nothing_more edges = small [] [] (event (codes "RUN") [] edges ∷ event (codes "A") [] [] ∷ [])

-- A comes at 0, as an event of its own
abbrev pub two_events : EventGraph
two_events = nothing_more (urgent 1 ∷ [])

-- A never comes
abbrev pub one_event : EventGraph
one_event = nothing_more []

-- A comes at 5 twice, and X is 1 after the first time
abbrev pub comes_twice : EventGraph
comes_twice = at_five (set 0 (plus_one 0) ∷ []) (only_if (equals_x 1) (urgent 1) ∷ [])
