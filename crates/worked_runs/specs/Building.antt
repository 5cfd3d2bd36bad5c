-- Words for writing down event graphs, and what is seen of their runs.
use Rattle.std.specs.Prelude.{ℕ, ℤ, pos, true, false, List, [], ◌∷◌, map, Some, None}
use Rattle.model_core.specs.declared.model.Kind.TheVariants as kinds
use Rattle.model_core.specs.EventGraph.{Variable, Operator, Location, Expression, Number, Scalar, Negative, Binary, Add, Subtract, Divide, Above, Equal, Truth, StateChange, Set, Draw, Uniform, EventEdge, EdgeKind, Fixed, Schedule, Urgent, EventVertex, Watched, WatchedVariable}
use Rattle.model_core.specs.Run.Machine.{Note, RunStatus, Look}

-- a range variable lo..hi that is a scalar, and begins with this value
abbrev pub ranged : List ℕ → ℕ → ℕ → ℕ → Variable
ranged name lo hi initial = record { name = name; size = 0; kind = kinds.Range; lo = pos lo; hi = pos hi; clip = false; initial = pos initial }

-- a store outside the range takes the nearest bound
abbrev pub clipped : Variable → Variable
clipped v = record v { clip = true }

-- an array of so many of these
abbrev pub array : ℕ → Variable → Variable
array size v = record v { size = size }

abbrev pub whole : ℕ → Expression
whole n = Number (pos n)

abbrev pub at_variable : ℕ → Location
at_variable v = record { variable = v; index = None }

-- a cell of an array
abbrev pub at_cell : ℕ → Expression → Location
at_cell v e = record { variable = v; index = Some e }

abbrev pub set : ℕ → Expression → StateChange
set v e = Set (at_variable v ∷ []) (e ∷ [])

abbrev pub draw : ℕ → ℕ → ℕ → ℕ → StateChange
draw v stream lo hi = Draw (at_variable v) stream (Uniform (pos lo) (pos hi))

-- a cell of an array is drawn from stream 54, from 1 to 6
abbrev pub draw_cell : ℕ → Expression → StateChange
draw_cell v index = Draw (at_cell v index) 54 (Uniform (pos 1) (pos 6))

abbrev pub plain_edge : EdgeKind → ℕ → List Expression → EventEdge
plain_edge kind target values = record { target = target; values = values; condition = Truth true; kind = kind }

abbrev pub schedule : ℕ → Expression → EventEdge
schedule target delay = plain_edge (Schedule (Fixed delay) 5) target []

abbrev pub schedule_with : ℕ → ℕ → ℕ → EventEdge
schedule_with target carried delay = plain_edge (Schedule (Fixed (whole delay)) 5) target (whole carried ∷ [])

-- to the second vertex, after 2 ticks
abbrev pub forward : EventEdge
forward = schedule 1 (whole 2)

-- two numbers that an edge carries
abbrev pub two_numbers : ℕ → ℕ → List Expression
two_numbers a b = whole a ∷ whole b ∷ []

abbrev pub urgent : ℕ → EventEdge
urgent target = plain_edge Urgent target []

-- the edge under a condition
abbrev pub only_if : Expression → EventEdge → EventEdge
only_if condition e = record e { condition = condition }

abbrev pub event : List ℕ → List StateChange → List EventEdge → EventVertex
event name changes edges = record { name = name; parameters = []; changes = changes; edges = edges }

abbrev pub takes : List ℕ → EventVertex → EventVertex
takes parameters v = record v { parameters = parameters }

-- the first variable is watched, and nothing else
abbrev pub x_watched : List Watched
x_watched = WatchedVariable 0 ∷ []

-- the values of watched scalars
abbrev pub scalars : List ℕ → List (List ℤ)
scalars values = map (λ x. pos x ∷ []) values

-- the look: these notes, and the standing of the run
abbrev pub showing : List Note → RunStatus → Look
showing notes standing = record { history = notes; standing = standing }

-- the variable and 1
abbrev pub plus_one : ℕ → Expression
plus_one v = Binary Add (Scalar v) (whole 1)

abbrev pub minus_one : ℕ → Expression
minus_one v = Binary Subtract (Scalar v) (whole 1)

-- the variable is above 0
abbrev pub positive : ℕ → Expression
positive v = Binary Above (Scalar v) (whole 0)

-- the variable compared with a number
abbrev pub scalar_is : Operator → ℕ → ℕ → Expression
scalar_is op v n = Binary op (Scalar v) (whole n)

abbrev pub minus : ℕ → Expression
minus n = Negative (whole n)

abbrev pub one_over_zero : Expression
one_over_zero = Binary Divide (whole 1) (whole 0)

abbrev pub is_one_over_zero : Expression
is_one_over_zero = Binary Equal one_over_zero (whole 1)

-- how many words were taken before each of the first six
abbrev pub first_six : List ℕ
first_six = 0 ∷ 1 ∷ 2 ∷ 3 ∷ 4 ∷ 5 ∷ []
