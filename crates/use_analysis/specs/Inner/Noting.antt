-- Uses noted one by one in the rows of a table.
use Rattle.std.specs.Prelude.{ℕ, ◌+◌, ◌-◌, ◌==◌, Bool, true, false, cond, List, [], ◌∷◌, ◌++◌, length, map, slice_get}
use Rattle.std.specs.List.{range_with_len}
use Rattle.std.specs.Option.{option_map_or}
use Rattle.model_core.specs.EventGraph.{EventGraph, EventVertex, watched_variables}
use Rattle.model_core.specs.Rules.PlacedEdges.{with_place}
use Rattle.model_core.specs.Rules.Uses.{VariableUses, vertex_reads, vertex_writes}
use Rattle.use_analysis.specs.declared.table.Use.{Use}
use Rattle.use_analysis.specs.declared.table.Use.TheVariants as kinds

-- this place is the last of these
abbrev pub ends_with : List ℕ → ℕ → Bool
ends_with places place = option_map_or (λ last. last == place) (slice_get places (length places - 1)) false

-- the places with one more, unless it is the last of them
abbrev pub once : List ℕ → ℕ → List ℕ
once places place = cond (ends_with places place) places (places ++ place ∷ [])

-- a row with one use more
abbrev pub noted : Use → VariableUses → VariableUses
noted (kinds.Read by) r = record r { readers = once r.readers by }
noted (kinds.Written by) r = record r { writers = once r.writers by }
noted kinds.Watched r = record r { watched = true }

-- rows with this use of these variables
abbrev pub noted_all : Use → List ℕ → List VariableUses → List VariableUses
noted_all used [] rows = rows
noted_all used (v ∷ vs) rows = noted_all used vs (with_place (noted used) v rows)

-- rows with the uses by a vertex at this place
abbrev pub noted_vertex : ℕ → EventVertex → List VariableUses → List VariableUses
noted_vertex place v rows = noted_all (kinds.Written place) (vertex_writes v) (noted_all (kinds.Read place) (vertex_reads v) rows)

-- rows with the uses by vertices, of which the first is at this place
abbrev pub noted_vertices : ℕ → List EventVertex → List VariableUses → List VariableUses
noted_vertices place [] rows = rows
noted_vertices place (v ∷ vs) rows = noted_vertices (place + 1) vs (noted_vertex place v rows)

-- a row with no use
abbrev pub no_uses : VariableUses
no_uses = record { readers = []; writers = []; watched = false }

-- so many rows with no use
abbrev pub rows_unused : ℕ → List VariableUses
rows_unused count = map (λ k. no_uses) (range_with_len 0 count)

-- all uses in a graph
abbrev pub all_noted : EventGraph → List VariableUses
all_noted g = noted_vertices 0 g.vertices (noted_all kinds.Watched (watched_variables g.watch) (rows_unused (length g.variables)))
