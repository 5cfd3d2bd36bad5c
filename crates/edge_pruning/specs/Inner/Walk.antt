-- What the walk goes over: where it begins, and where the edges of each vertex lead.
use Rattle.std.specs.Prelude.{ℕ, List, [], ◌∷◌, map}
use Rattle.model_core.specs.EventGraph.{EventEdge, EventVertex, Watched, WatchedVariable, WatchedVertex}

-- where edges lead
abbrev pub targets_of : List EventEdge → List ℕ
targets_of es = map (λ (e : EventEdge). e.target) es

-- for each vertex where its edges lead
abbrev pub targets_by_vertex : List EventVertex → List (List ℕ)
targets_by_vertex vs = map (λ (v : EventVertex). targets_of v.edges) vs

-- the vertices of a watch list
abbrev pub watched_vertices : List Watched → List ℕ
watched_vertices [] = []
watched_vertices (WatchedVariable v ∷ watch) = watched_vertices watch
watched_vertices (WatchedVertex v ∷ watch) = v ∷ watched_vertices watch
