-- The pairs of vertices that are in conflict.
use Rattle.std.specs.Prelude.{ℕ, ◌-◌, cond, List, [], ◌∷◌, length}
use Rattle.std.specs.List.{range_with_len, flat_map}
use Rattle.model_core.specs.EventGraph.{EventGraph}
use Rattle.model_core.specs.declared.reasons.Pair.{Pair}
use Rattle.model_core.specs.Conflicts.Conflict.{reasons_of, in_conflict}

-- the vertices at two places, where they are in conflict
abbrev pub conflict_if : EventGraph → ℕ → ℕ → List Pair
conflict_if g a b = cond (in_conflict g a b) (record { a = a; b = b; reasons = reasons_of g a b } ∷ []) []

-- the pairs of a vertex with itself and with those after it
abbrev pub conflicts_from : EventGraph → ℕ → List Pair
conflicts_from g a = flat_map (conflict_if g a) (range_with_len a (length g.vertices - a))

-- all pairs, by the first vertex and then by the second
abbrev pub conflict_pairs : EventGraph → List Pair
conflict_pairs g = flat_map (conflicts_from g) (range_with_len 0 (length g.vertices))
