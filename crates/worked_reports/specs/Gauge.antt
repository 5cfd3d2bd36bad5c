-- A model of which a scalar, an array of two cells, an array of one and both events are watched, out of the order of declaration.
use Rattle.std.specs.Prelude.{ℤ, List, [], ◌∷◌, codes}
use Rattle.model_core.specs.EventGraph.{EventGraph, WatchedVariable, WatchedVertex}
use Rattle.worked_runs.specs.Building.{ranged, array, event}

-- The variables are N, A of two cells and B of one, and the vertices TICK and TOCK. The watch list is TOCK, A, N, TICK, B
abbrev pub gauge : EventGraph
gauge = record {
  name = codes "GAUGE";
  variables = ranged (codes "N") 0 9 0 ∷ array 2 (ranged (codes "A") 0 9 0) ∷ array 1 (ranged (codes "B") 0 9 0) ∷ [];
  tables = [];
  watch = WatchedVertex 1 ∷ WatchedVariable 1 ∷ WatchedVariable 0 ∷ WatchedVertex 0 ∷ WatchedVariable 2 ∷ [];
  vertices = event (codes "TICK") [] [] ∷ event (codes "TOCK") [] [] ∷ [];
}

-- the values of a note: of the two cells of A, of N and of B
abbrev pub gauged : ℤ → ℤ → ℤ → ℤ → List (List ℤ)
gauged first second n b = (first ∷ second ∷ []) ∷ (n ∷ []) ∷ (b ∷ []) ∷ []
