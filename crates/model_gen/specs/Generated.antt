-- The model that a number makes: nine variables, and vertices that the words of a random stream make.
use Rattle.std.specs.Prelude.{ℕ, ◌+◌, ◌*◌, ◌%◌, pos, true, false, Bool, ◌==◌, ◌||◌, nat_lt, if◌then◌else◌, List, [], ◌∷◌, ◌++◌, map, codes, decimal}
use Rattle.std.specs.List.{range_with_len}
use Rattle.sig_base.specs.Stream.{word, share}
use Rattle.model_core.specs.declared.model.Kind.TheVariants as kinds
use Rattle.model_core.specs.EventGraph.{Operator, Add, Below, AtLeast, Above, Expression, Number, Truth, Scalar, Binary, scalar_location, Uniform, StateChange, Set, Draw, Fixed, Schedule, Urgent, EventEdge, EventVertex, Variable, WatchedVariable, EventGraph}

-- ---- variables: the counters C0 to C7, and GAP, which takes the delays that are drawn

abbrev pub counter : ℕ → Variable
counter n = record { name = codes "C" ++ decimal n; size = 0; kind = kinds.Range; lo = pos 0; hi = pos 99; clip = true; initial = pos 0 }

abbrev pub gap : Variable
gap = record { name = codes "GAP"; size = 0; kind = kinds.Range; lo = pos 1; hi = pos 6; clip = false; initial = pos 1 }

-- the place of GAP among the variables
abbrev pub gap_place : ℕ
gap_place = 8

-- ---- vertices

-- the number below k that the word at this place of stream 54 picks
abbrev pub picked_below : ℕ → ℕ → ℕ → ℕ
picked_below seed place k = share (word seed 54 place) k

-- the counter at this place goes up by one, and where the vertex draws, GAP takes a delay from 1 to 6
abbrev pub generated_changes : ℕ → Bool → List StateChange
generated_changes x draws =
    Set (scalar_location x ∷ []) (Binary Add (Scalar x) (Number (pos 1)) ∷ [])
    ∷ (if draws then Draw (scalar_location gap_place) 54 (Uniform (pos 1) (pos 6)) ∷ [] else [])

-- an edge that schedules a vertex after a delay, with the usual priority, where a condition holds
abbrev pub timed_edge : ℕ → Expression → Expression → EventEdge
timed_edge target delay condition = record { target = target; values = []; condition = condition; kind = Schedule (Fixed delay) 5 }

-- an edge that schedules a vertex at once
abbrev pub immediate_edge : ℕ → EventEdge
immediate_edge target = record { target = target; values = []; condition = Truth true; kind = Urgent }

-- the counter at this place is compared with a number
abbrev pub counter_test : Operator → ℕ → ℕ → Expression
counter_test op c n = Binary op (Scalar c) (Number (pos n))

-- the edge from vertex i of so many to the next one at once, or from the last one back to the first
abbrev pub edge_onward : ℕ → ℕ → EventEdge
edge_onward vertices i = if nat_lt (i + 1) vertices then immediate_edge (i + 1) else timed_edge 0 (Number (pos 2)) (Truth true)

-- one edge while C0 is below 50, and the other from then on
abbrev pub edges_by_half : ℕ → List EventEdge
edges_by_half z = timed_edge z (Number (pos 3)) (counter_test Below 0 50) ∷ timed_edge 0 (Number (pos 9)) (counter_test AtLeast 0 50) ∷ []

-- one edge where C1 is above 99, which it never is, and the other where it isn't
abbrev pub edges_by_bound : ℕ → ℕ → ℕ → List EventEdge
edges_by_bound vertices i z =
    timed_edge z (Number (pos 1)) (counter_test Above 1 99) ∷ timed_edge ((i + 1) % vertices) (Scalar gap_place) (counter_test Below 1 100) ∷ []

-- the edges of vertex i of so many, in one of four forms, of which some lead to vertex z
abbrev pub generated_edges : ℕ → ℕ → ℕ → ℕ → List EventEdge
generated_edges vertices i form z =
    if form == 0 then timed_edge z (Scalar gap_place) (Truth true) ∷ []
    else (if form == 1 then edge_onward vertices i ∷ []
    else (if form == 2 then edges_by_half z
    else edges_by_bound vertices i z))

-- vertex i of so many, by a counter, a form of its edges and a vertex
abbrev pub vertex_by : ℕ → ℕ → ℕ → ℕ → ℕ → EventVertex
vertex_by vertices i x form z = record {
  name = codes "E" ++ decimal i;
  parameters = [];
  changes = generated_changes x ((form == 0) || (form == 3));
  edges = generated_edges vertices i form z;
}

-- vertex i takes three words, after those of the vertices before it
abbrev pub generated_vertex : ℕ → ℕ → ℕ → EventVertex
generated_vertex seed vertices i = vertex_by vertices i (picked_below seed (3 * i) 8) (picked_below seed (3 * i + 1) 4) (picked_below seed (3 * i + 2) vertices)

-- ---- the model

-- the model of so many vertices that the number makes
abbrev pub generated : ℕ → ℕ → EventGraph
generated seed vertices = record {
  name = codes "TRIAL";
  variables = map counter (range_with_len 0 8) ++ gap ∷ [];
  tables = [];
  watch = WatchedVariable 0 ∷ WatchedVariable 1 ∷ [];
  vertices = map (generated_vertex seed vertices) (range_with_len 0 vertices);
}
