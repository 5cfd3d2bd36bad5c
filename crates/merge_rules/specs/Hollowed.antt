-- What is left of the second vertex of a merge: all of it, or a vertex that does nothing any more, since another one does it.
use Rattle.std.specs.Prelude.{ℕ, []}
use Rattle.model_core.specs.EventGraph.{EventGraph, EventVertex}
use Rattle.model_core.specs.Rules.PlacedEdges.{with_vertex}
use Rattle.model_core.specs.Rules.Merge.{merged}
use Rattle.merge_rules.specs.declared.taking_over.SecondVertex.{SecondVertex}
use Rattle.merge_rules.specs.declared.taking_over.SecondVertex.TheVariants as seconds

-- the vertex without changes and edges
abbrev pub hollow : EventVertex → EventVertex
hollow v = record v { changes = []; edges = [] }

-- the graph in which the vertex at this place has none
abbrev pub hollowed : EventGraph → ℕ → EventGraph
hollowed g place = with_vertex hollow place g

-- what is left of a vertex
abbrev pub second_after_merge : SecondVertex → EventVertex → EventVertex
second_after_merge seconds.Stays v = v
second_after_merge seconds.GivesAway v = hollow v

-- the result of a merge that leaves this of its second vertex
abbrev pub merged_leaving : SecondVertex → EventGraph → ℕ → ℕ → EventGraph
merged_leaving seconds.Stays g first second = merged g first second
merged_leaving seconds.GivesAway g first second = hollowed (merged g first second) second
