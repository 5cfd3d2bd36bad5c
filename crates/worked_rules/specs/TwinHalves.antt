-- Models with vertices that do the same, and others that differ from them in one thing.
use Rattle.std.specs.Prelude.{ℕ, pos, false, List, [], ◌∷◌, ◌++◌, map, take, drop, codes, replicate}
use Rattle.model_core.specs.EventGraph.{EventGraph, Truth, Scalar, Uniform, ByTable, StateChange, Set, Draw, Fixed, Drawn, Schedule, Urgent, CancelNext, CancelEqual, CancelAll, EventEdge, EventVertex, Watched, WatchedVariable, WatchedVertex}
use Rattle.worked_runs.specs.Building.{ranged, clipped, array, whole, at_variable, at_cell, set, draw, plain_edge, urgent, only_if, event, takes, plus_one, positive}

-- after 1 tick, with these places
abbrev pub to : ℕ → EventEdge
to target = plain_edge (Schedule (Fixed (whole 1)) 5) target []

-- a model of N and M, with this watch list
abbrev pub twinned : List Watched → List EventVertex → EventGraph
twinned watch vertices = record {
  name = codes "TWINS";
  variables = clipped (ranged (codes "N") 0 9 0) ∷ clipped (ranged (codes "M") 0 9 0) ∷ [];
  tables = [];
  watch = watch;
  vertices = vertices;
}

-- ---- two that take a value, with others between them: KEEP is the second vertex, and GONE the fourth

-- The edge carries a value to one of the two.
abbrev pub carrying_to : ℕ → EventEdge
carrying_to target = plain_edge Urgent target (whole 3 ∷ [])

abbrev pub twin : List ℕ → List ℕ → EventEdge → EventVertex
twin name parameters e = takes parameters (event name (set 0 (plus_one 0) ∷ set 1 (Scalar 0) ∷ []) (to 2 ∷ e ∷ to 4 ∷ []))

-- with these parameters of GONE, and with these edges more of the last vertex
abbrev pub apart_twins : List Watched → List ℕ → List EventEdge → EventGraph
apart_twins watch parameters more =
    twinned watch
    (event (codes "RUN") [] (carrying_to 1 ∷ carrying_to 3 ∷ to 0 ∷ to 2 ∷ to 4 ∷ []) ∷
    twin (codes "KEEP") (0 ∷ 1 ∷ []) (carrying_to 1) ∷
    event (codes "MID") [] (carrying_to 3 ∷ []) ∷
    twin (codes "GONE") parameters (carrying_to 3) ∷
    event (codes "LAST") [] (to 4 ∷ more) ∷
    [])

-- what is watched are the last vertex, a variable, and the vertex between the two
abbrev pub last_and_mid : List Watched
last_and_mid = WatchedVertex 4 ∷ WatchedVariable 1 ∷ WatchedVertex 2 ∷ []

abbrev pub two_that_take : EventGraph
two_that_take = apart_twins last_and_mid (0 ∷ 1 ∷ []) []

-- the last vertex is the fourth
abbrev pub one_that_takes : EventGraph
one_that_takes =
    twinned (WatchedVertex 3 ∷ WatchedVariable 1 ∷ WatchedVertex 2 ∷ [])
    (event (codes "RUN") [] (carrying_to 1 ∷ carrying_to 1 ∷ to 0 ∷ to 2 ∷ to 3 ∷ []) ∷
    takes (0 ∷ 1 ∷ []) (event (codes "KEEP") (set 0 (plus_one 0) ∷ set 1 (Scalar 0) ∷ []) (to 2 ∷ carrying_to 1 ∷ to 3 ∷ [])) ∷
    event (codes "MID") [] (carrying_to 1 ∷ []) ∷
    event (codes "LAST") [] (to 3 ∷ []) ∷
    [])

-- the last vertex cancels those of one in this way
abbrev pub cut_by_the_last : EventEdge → EventGraph
cut_by_the_last cut = apart_twins last_and_mid (0 ∷ 1 ∷ []) (cut ∷ [])

-- ---- two with each feature of the language, of which GONE has these changes and these edges

-- a draw from a range, one from a table into a cell, and a `set` of a cell and a scalar
abbrev pub rich_changes : List StateChange
rich_changes =
    draw 0 54 1 6 ∷
    Draw (at_cell 2 (Scalar 0)) 53 (ByTable 0) ∷
    Set (at_cell 2 (whole 1) ∷ at_variable 1 ∷ []) (plus_one 0 ∷ Scalar 1 ∷ []) ∷
    []

-- after a delay that is drawn so, where this variable is above 0, with this value
abbrev pub drawn_to_last : ℕ → ℕ → ℕ → ℕ → ℕ → ℕ → EventEdge
drawn_to_last stream lo hi priority v value = only_if (positive v) (plain_edge (Schedule (Drawn stream (Uniform (pos lo) (pos hi))) priority) 3 (whole value ∷ []))

-- the events of LAST: the next, those that carry 2, and all; and at once, but never
abbrev pub cuts_and_never : List EventEdge
cuts_and_never = plain_edge CancelNext 3 [] ∷ plain_edge CancelEqual 3 (whole 2 ∷ []) ∷ plain_edge CancelAll 3 [] ∷ only_if (Truth false) (urgent 3) ∷ []

abbrev pub rich_edges : List EventEdge
rich_edges = drawn_to_last 52 1 6 3 0 7 ∷ cuts_and_never

abbrev pub rich_twins : List StateChange → List EventEdge → EventGraph
rich_twins changes edges = record {
  name = codes "RICH";
  variables = clipped (ranged (codes "N") 0 9 0) ∷ clipped (ranged (codes "M") 0 9 0) ∷ array 3 (clipped (ranged (codes "A") 0 9 0)) ∷ [];
  tables = record { name = codes "T"; rows = record { value = pos 1; weight = 1 } ∷ [] } ∷ [];
  watch = [];
  vertices =
      event (codes "RUN") [] (to 1 ∷ to 2 ∷ []) ∷
      event (codes "KEEP") rich_changes rich_edges ∷
      event (codes "GONE") changes edges ∷
      takes (1 ∷ []) (event (codes "LAST") [] []) ∷
      [];
}

-- RUN schedules KEEP twice, and LAST is the third vertex
abbrev pub one_rich : EventGraph
one_rich = record (rich_twins [] []) {
  vertices =
      event (codes "RUN") [] (to 1 ∷ to 1 ∷ []) ∷
      event (codes "KEEP") rich_changes
      (only_if (positive 0) (plain_edge (Schedule (Drawn 52 (Uniform (pos 1) (pos 6))) 3) 2 (whole 7 ∷ [])) ∷
      plain_edge CancelNext 2 [] ∷ plain_edge CancelEqual 2 (whole 2 ∷ []) ∷ plain_edge CancelAll 2 [] ∷ only_if (Truth false) (urgent 2) ∷ []) ∷
      takes (1 ∷ []) (event (codes "LAST") [] []) ∷
      [];
}

-- the changes of which one is another one
abbrev pub changes_apart_by_one : List (List StateChange)
changes_apart_by_one =
    map (λ change. change ∷ drop 1 rich_changes) (draw 0 53 1 6 ∷ draw 0 54 0 6 ∷ draw 0 54 1 5 ∷ draw 1 54 1 6 ∷ [])
    ++ map (λ change. draw 0 54 1 6 ∷ change ∷ drop 2 rich_changes)
    (Draw (at_cell 2 (Scalar 1)) 53 (ByTable 0) ∷ Draw (at_variable 2) 53 (ByTable 0) ∷ Draw (at_cell 2 (Scalar 0)) 52 (ByTable 0) ∷ Draw (at_cell 2 (Scalar 0)) 53 (ByTable 1) ∷ Draw (at_cell 2 (Scalar 0)) 53 (Uniform (pos 0) (pos 0)) ∷ [])
    ++ map (λ change. take 2 rich_changes ++ change ∷ [])
    (Set (at_cell 2 (whole 2) ∷ at_variable 1 ∷ []) (plus_one 0 ∷ Scalar 1 ∷ []) ∷
    Set (at_cell 2 (whole 1) ∷ at_variable 0 ∷ []) (plus_one 0 ∷ Scalar 1 ∷ []) ∷
    Set (at_cell 2 (whole 1) ∷ []) (plus_one 0 ∷ []) ∷
    Set (at_cell 2 (whole 1) ∷ at_variable 1 ∷ []) (plus_one 1 ∷ Scalar 1 ∷ []) ∷
    Set (at_cell 2 (whole 1) ∷ at_variable 1 ∷ []) (plus_one 0 ∷ Scalar 0 ∷ []) ∷ [])

-- the edges of which one is another one
abbrev pub edges_apart_by_one : List (List EventEdge)
edges_apart_by_one =
    map (λ edge. edge ∷ cuts_and_never)
    (drawn_to_last 51 1 6 3 0 7 ∷ drawn_to_last 52 0 6 3 0 7 ∷ drawn_to_last 52 1 5 3 0 7 ∷ drawn_to_last 52 1 6 4 0 7 ∷ drawn_to_last 52 1 6 3 1 7 ∷ drawn_to_last 52 1 6 3 0 8 ∷
    only_if (positive 0) (plain_edge (Schedule (Fixed (whole 1)) 3) 3 (whole 7 ∷ [])) ∷ only_if (positive 0) (plain_edge (Schedule (Drawn 52 (ByTable 0)) 3) 3 (whole 7 ∷ [])) ∷ [])
    ++ map (λ edge. drawn_to_last 52 1 6 3 0 7 ∷ edge ∷ drop 1 cuts_and_never) (plain_edge CancelAll 3 [] ∷ plain_edge CancelEqual 3 [] ∷ plain_edge Urgent 3 [] ∷ plain_edge CancelNext 0 [] ∷ [])
    ++ map (λ edge. take 2 rich_edges ++ edge ∷ drop 2 cuts_and_never) (plain_edge CancelNext 3 (whole 2 ∷ []) ∷ plain_edge CancelEqual 3 (whole 3 ∷ []) ∷ plain_edge CancelEqual 3 [] ∷ [])
    ++ map (λ edge. take 3 rich_edges ++ edge ∷ drop 3 cuts_and_never) (plain_edge CancelNext 3 [] ∷ [])
    ++ map (λ edge. take 4 rich_edges ++ edge ∷ []) (urgent 3 ∷ only_if (Truth false) (urgent 0) ∷ only_if (Truth false) (to 3) ∷ [])

-- ---- four that count N or M, two by two

abbrev pub counts_n : List ℕ → EventVertex
counts_n name = event name (set 0 (plus_one 0) ∷ []) []

abbrev pub counts_m : List ℕ → EventVertex
counts_m name = event name (set 1 (plus_one 1) ∷ []) []

-- A and D are twins, and so are B and C
abbrev pub two_pairs : EventGraph
two_pairs = twinned [] (event (codes "RUN") [] [] ∷ counts_n (codes "A") ∷ counts_m (codes "B") ∷ counts_m (codes "C") ∷ counts_n (codes "D") ∷ [])

-- RUN, A and B do the same
abbrev pub three_alike : EventGraph
three_alike = twinned [] (counts_n (codes "RUN") ∷ counts_n (codes "A") ∷ counts_n (codes "B") ∷ [])

abbrev pub alone : EventGraph
alone = twinned [] (counts_n (codes "RUN") ∷ [])

-- the first three under a name of so many bytes
abbrev pub long_twins : ℕ → EventGraph
long_twins bytes = record three_alike { name = replicate bytes 78 }
