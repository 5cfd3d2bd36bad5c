-- Marks on vertices, and which vertices aren't fused whatever they do.
use Rattle.std.specs.Prelude.{ℕ, Bool, true, ◌||◌, cond, slice_index_or}
use Rattle.std.specs.List.{list_any}
use Rattle.model_core.specs.EventGraph.{EventGraph, EventVertex, EventEdge}
use Rattle.model_core.specs.Rules.Merge.{leads_to, cancels, is_watched_vertex}
use Rattle.model_core.specs.Rules.Fuse.{can_be_cancelled}
use Rattle.twin_rules.specs.declared.marks.Marks.{Marks}

-- a vertex is marked; one beyond all marks counts as such
abbrev pub has_mark : Marks → ℕ → Bool
has_mark m v = slice_index_or m.marks v true

-- the edge leads to the vertex, or only counts where it cancels its events
abbrev pub marks_at : Bool → ℕ → EventEdge → Bool
marks_at cancelled v e = cond cancelled (cancels v e) (leads_to v e)

-- one of the edges of this vertex leads to the one at this place, or only counts where it cancels its events
abbrev pub one_marks : Bool → ℕ → EventVertex → Bool
one_marks cancelled v w = list_any (marks_at cancelled v) w.edges

-- the vertex is watched, or its events can be cancelled
abbrev pub is_barred : EventGraph → ℕ → Bool
is_barred g v = is_watched_vertex g v || can_be_cancelled g v
