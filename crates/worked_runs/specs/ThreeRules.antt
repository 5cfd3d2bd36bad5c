-- A model in which one edge is pruned, one is settled and a vertex is dropped, and what each of these leaves.
use Rattle.std.specs.Prelude.{ℕ, List, [], ◌∷◌, codes}
use Rattle.model_core.specs.EventGraph.{EventGraph, EventVertex, EventEdge, Expression, Scalar, Binary, Divide, Above, Below, WatchedVariable}
use Rattle.worked_runs.specs.Building.{ranged, whole, schedule, forward, only_if, event}

-- 5 / X > 9
abbrev pub above_nine : Expression
above_nine = Binary Above (Binary Divide (whole 5) (Scalar 0)) (whole 9)

abbrev pub back : EventEdge
back = only_if above_nine (schedule 0 (whole 1))

abbrev pub forward_below_four : EventEdge
forward_below_four = only_if (Binary Below (Scalar 0) (whole 4)) forward

-- X lies in lo..3 and begins as lo. RUN has these edges, A none, and then come others
abbrev pub of_edges : ℕ → List EventEdge → List EventVertex → EventGraph
of_edges lo edges others = record {
  name = codes "PRUNE";
  variables = ranged (codes "X") lo 3 lo ∷ [];
  tables = [];
  watch = WatchedVariable 0 ∷ [];
  vertices = event (codes "RUN") [] edges ∷ event (codes "A") [] [] ∷ others;
}

-- no edge leads to B
abbrev pub unled : List EventVertex
unled = event (codes "B") [] (forward ∷ []) ∷ []

abbrev pub narrow : EventGraph
narrow = of_edges 1 (back ∷ forward_below_four ∷ []) unled

abbrev pub narrow_pruned : EventGraph
narrow_pruned = of_edges 1 (forward_below_four ∷ []) unled

abbrev pub narrow_settled : EventGraph
narrow_settled = of_edges 1 (forward ∷ []) unled

abbrev pub narrow_dropped : EventGraph
narrow_dropped = of_edges 1 (forward ∷ []) []

-- with 0 in the range of X, the first condition can fault
abbrev pub faulting : EventGraph
faulting = of_edges 0 (back ∷ forward_below_four ∷ []) unled

abbrev pub faulting_settled : EventGraph
faulting_settled = of_edges 0 (back ∷ forward ∷ []) unled

abbrev pub faulting_reduced : EventGraph
faulting_reduced = of_edges 0 (back ∷ forward ∷ []) []
