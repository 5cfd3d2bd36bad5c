-- Models whose edges draw their delays.
use Rattle.std.specs.Prelude.{ℕ, pos, negsuc, List, [], ◌∷◌, Option, Some, None, codes}
use Rattle.model_core.specs.EventGraph.{EventGraph, Choice, Uniform, EventEdge, Drawn, Schedule, WatchedVariable, WatchedVertex}
use Rattle.model_core.specs.Text.Written as written
use Rattle.model_core.specs.Text.Written.{WrittenNumber, WrittenEdge, WrittenModel}
use Rattle.worked_runs.specs.Building.{ranged, clipped, set, draw, plain_edge, urgent, event, plus_one, x_watched}
use Rattle.worked_runs.specs.WrittenParts.{spelled, figure, plain_figure, leading, run_at, composed}

-- an edge to this vertex, whose delay is drawn from stream 54
abbrev pub after_draw : ℕ → Choice → EventEdge
after_draw target choice = plain_edge (Schedule (Drawn 54 choice) 5) target []

abbrev pub one_to_six : Choice
one_to_six = Uniform (pos 1) (pos 6)

-- from -6 to -1
abbrev pub below_zero : Choice
below_zero = Uniform (negsuc 5) (negsuc 0)

-- RUN counts N, and has these edges. The vertices are RUN, A and B, of which A and B are watched after N. The table has
-- 8 and 2, each as often
abbrev pub arriving : List EventEdge → EventGraph
arriving edges = record {
  name = codes "DELAY";
  variables = clipped (ranged (codes "N") 0 9 0) ∷ [];
  tables = record { name = codes "T"; rows = record { value = pos 8; weight = 1 } ∷ record { value = pos 2; weight = 1 } ∷ [] } ∷ [];
  watch = WatchedVariable 0 ∷ WatchedVertex 1 ∷ WatchedVertex 2 ∷ [];
  vertices = event (codes "RUN") (set 0 (plus_one 0) ∷ []) edges ∷ event (codes "A") [] [] ∷ event (codes "B") [] [] ∷ [];
}

-- RUN draws Y from this stream too
abbrev pub drawing_too : ℕ → EventGraph
drawing_too stream = record {
  name = codes "DELAY";
  variables = clipped (ranged (codes "N") 0 9 0) ∷ ranged (codes "Y") 1 6 1 ∷ [];
  tables = [];
  watch = x_watched;
  vertices = event (codes "RUN") (set 0 (plus_one 0) ∷ draw 1 stream 1 6 ∷ []) (after_draw 0 one_to_six ∷ []) ∷ [];
}

-- RUN schedules B at once, which draws X, and each has these edges besides. C does nothing
abbrev pub twisted : List EventEdge → List EventEdge → EventGraph
twisted of_run of_b = record {
  name = codes "TWIST";
  variables = ranged (codes "X") 1 6 1 ∷ [];
  tables = [];
  watch = x_watched;
  vertices = event (codes "RUN") [] (urgent 1 ∷ of_run) ∷ event (codes "B") (draw 0 54 1 6 ∷ []) of_b ∷ event (codes "C") [] [] ∷ [];
}

-- ---- as they are written

-- a loop of RUN, whose delay is drawn at byte 140 from 1 to 6
abbrev pub drawn_loop : WrittenEdge
drawn_loop = leading 120 (spelled (codes "RUN") 129) (written.Schedule (Some (written.Drawn 140 (figure 54 150) (written.Uniform (plain_figure 1 156) (plain_figure 6 159)))) None)

-- a model with that loop, which says this of its version
abbrev pub drawn_in : Option WrittenNumber → WrittenModel
drawn_in version = record (composed [] (run_at 100 [] (drawn_loop ∷ []) ∷ []) 165) { version = version }
