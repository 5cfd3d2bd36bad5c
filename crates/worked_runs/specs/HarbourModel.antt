-- A model whose runs are saved: a scalar, two truth values and a scalar with the widest range, and an event that takes the scalars.
use Rattle.std.specs.Prelude.{pos, neg_ℤ, List, [], ◌∷◌, codes}
use Rattle.model_core.specs.EventGraph.{EventGraph, Variable, Watched, WatchedVariable, WatchedVertex}
use Rattle.worked_runs.specs.Building.{array, event, takes}
use Rattle.worked_runs.specs.BoundedModel.{bounded_by, truth_variable}

abbrev pub harbour_n : Variable
harbour_n = bounded_by (codes "N") (neg_ℤ (pos 3)) (pos 9)

abbrev pub harbour_flags : Variable
harbour_flags = array 2 (truth_variable (codes "FLAGS"))

abbrev pub harbour_z : Variable
harbour_z = bounded_by (codes "Z") (neg_ℤ (pos 4611686018427387904)) (pos 4611686018427387904)

-- The variables are N in -3..9, FLAGS of two truth values and Z in -2^62..2^62, and the vertices RUN and A(N, Z). These are watched
abbrev pub harbour_watching : List Watched → EventGraph
harbour_watching watch = record {
  name = codes "HARBOUR";
  variables = harbour_n ∷ harbour_flags ∷ harbour_z ∷ [];
  tables = [];
  watch = watch;
  vertices = event (codes "RUN") [] [] ∷ takes (0 ∷ 2 ∷ []) (event (codes "A") [] []) ∷ [];
}

-- FLAGS is watched, then A, then N
abbrev pub harbour : EventGraph
harbour = harbour_watching (WatchedVariable 1 ∷ WatchedVertex 1 ∷ WatchedVariable 0 ∷ [])
