-- Conflict: two vertices may have simultaneous events of equal priority, and one changes what the other uses.
use Rattle.std.specs.Prelude.{ℕ, Bool, ◌&&◌, ◌||◌, cond, List, [], ◌∷◌, ◌++◌, map}
use Rattle.std.specs.List.{list_any, flat_map}
use Rattle.model_core.specs.EventGraph.{EventGraph, EventVertex, EventEdge}
use Rattle.model_core.specs.Run.Step.{vertex_at}
use Rattle.model_core.specs.Rules.MarkedPlaces.{is_among}
use Rattle.model_core.specs.Rules.Merge.{is_cancelling}
use Rattle.model_core.specs.Rules.Uses.{vertex_reads, vertex_writes, vertex_streams}
use Rattle.model_core.specs.declared.reasons.Reasons.{Reasons}
use Rattle.model_core.specs.Conflicts.Priorities.{priorities_of}

-- ---- the vertices that a vertex names

-- the vertices that the edges of a vertex name
abbrev pub named_vertices : EventVertex → List ℕ
named_vertices v = map (λ (e : EventEdge). e.target) v.edges

-- the vertex that an edge cancels, if it does
abbrev pub edge_cancelled : EventEdge → List ℕ
edge_cancelled e = cond (is_cancelling e.kind) (e.target ∷ []) []

-- the vertices whose events a vertex cancels
abbrev pub cancelled_vertices : EventVertex → List ℕ
cancelled_vertices v = flat_map edge_cancelled v.edges

-- ---- the reasons

-- two lists have a number in common
abbrev pub in_common : List ℕ → List ℕ → Bool
in_common xs ys = list_any (is_among ys) xs

-- one writes a variable that the other reads or writes
abbrev pub over_variables : EventVertex → EventVertex → Bool
over_variables v w = in_common (vertex_writes v) (vertex_reads w ++ vertex_writes w) || in_common (vertex_writes w) (vertex_reads v ++ vertex_writes v)

-- both draw from one stream
abbrev pub over_streams : EventVertex → EventVertex → Bool
over_streams v w = in_common (vertex_streams v) (vertex_streams w)

-- v cancels events of the vertex w at a place, or of one that an edge of w names
abbrev pub cancels_into : EventVertex → EventVertex → ℕ → Bool
cancels_into v w place = in_common (cancelled_vertices v) (place ∷ named_vertices w)

-- one of the vertices at two places does so to the other
abbrev pub over_events : EventGraph → ℕ → ℕ → Bool
over_events g a b = cancels_into (vertex_at g a) (vertex_at g b) b || cancels_into (vertex_at g b) (vertex_at g a) a

-- whether they have a priority in common, and the reasons
abbrev pub reasons_of : EventGraph → ℕ → ℕ → Reasons
reasons_of g a b = record {
  meet = in_common (priorities_of g a) (priorities_of g b);
  variables = over_variables (vertex_at g a) (vertex_at g b);
  streams = over_streams (vertex_at g a) (vertex_at g b);
  cancels = over_events g a b;
}

-- events of them may meet, and there is a reason
abbrev pub is_conflict : Reasons → Bool
is_conflict r = r.meet && (r.variables || r.streams || r.cancels)

-- the vertices at these two places, which may be one, are in conflict
abbrev pub in_conflict : EventGraph → ℕ → ℕ → Bool
in_conflict g a b = is_conflict (reasons_of g a b)
