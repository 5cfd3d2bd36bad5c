-- The lines by which a canonical text says what a vertex does: those of its changes, and then those of its edges.
use Rattle.std.specs.Prelude.{ℕ, List, ◌++◌}
use Rattle.std.specs.List.{flat_map}
use Rattle.model_core.specs.EventGraph.{EventGraph, EventVertex}
use Rattle.model_core.specs.Text.Canonical.{change_line, edge_line}

-- the lines of a vertex's changes and edges
abbrev pub body_lines : EventGraph → EventVertex → List ℕ
body_lines g v = flat_map (change_line g) v.changes ++ flat_map (edge_line g) v.edges
