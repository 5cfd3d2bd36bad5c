-- The least sets whose places are marked, as relations: what pairs entail, the variables that are needed, and the vertices
-- that can be reached.
use Rattle.std.specs.Prelude.{ℕ, ◌<◌, List, length, Contains}
use Rattle.model_core.specs.EventGraph.{EventEdge, EventGraph, WatchedVertex}
use Rattle.model_core.specs.Run.Step.{vertex_at}
use Rattle.model_core.specs.Rules.Needed.{needed_at_once, needed_beside}

-- the least set of places below a number that holds some, and with the first place of a pair also the second
pub data Entailed (count : ℕ) (first : List ℕ) (pairs : List (ℕ × ℕ)) : ℕ → Type 0 where
  from_first : (k : ℕ) → k < count → Contains first k → Entailed count first pairs k
  over_pair : (j k : ℕ) → k < count → Entailed count first pairs j → Contains pairs (j, k) → Entailed count first pairs k

-- a variable is needed
abbrev pub Needed : EventGraph → ℕ → Type 0
Needed g v = Entailed (length g.variables) (needed_at_once g) (needed_beside g) v

-- a vertex can be reached: the first, a watched one, or one to which an edge of any kind leads from one that can
pub data Reachable (g : EventGraph) : ℕ → Type 0 where
  reach_first : Reachable g 0
  reach_watched : (vertex : ℕ) → Contains g.watch (WatchedVertex vertex) → Reachable g vertex
  reach_over : (vertex : ℕ) (e : EventEdge) → Reachable g vertex → Contains (vertex_at g vertex).edges e → Reachable g e.target
