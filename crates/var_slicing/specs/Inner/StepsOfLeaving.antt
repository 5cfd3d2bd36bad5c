-- What is left of vertices where variables go, in the two steps in which the code does it.
use Rattle.std.specs.Prelude.{ℕ, Bool, List, [], map, slice_index_or}
use Rattle.std.specs.List.{flat_map}
use Rattle.model_core.specs.EventGraph.{EventEdge, EventVertex}
use Rattle.model_core.specs.Rules.MarkedPlaces.{rank}
use Rattle.model_core.specs.Rules.Slice.{expression_renumbered, sliced_values, sliced_parameters, sliced_change, sliced_kind}

-- an edge to one of the vertices that have these parameters
abbrev pub edge_left_in : List (List ℕ) → List Bool → EventEdge → EventEdge
edge_left_in parameters marks e = record {
  target = e.target;
  values = sliced_values marks (slice_index_or parameters e.target []) e.values;
  condition = expression_renumbered (rank marks) e.condition;
  kind = sliced_kind marks e.kind;
}

-- first, the edges of a vertex
abbrev pub edges_left_in : List (List ℕ) → List Bool → EventVertex → EventVertex
edges_left_in parameters marks v = record v { edges = map (edge_left_in parameters marks) v.edges }

-- then its parameters and changes
abbrev pub own_parts_left : List Bool → EventVertex → EventVertex
own_parts_left marks v = record v { parameters = sliced_parameters marks v.parameters; changes = flat_map (sliced_change marks) v.changes }
