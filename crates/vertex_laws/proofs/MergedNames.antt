-- The names of vertices stay where two of them are merged.
use Rattle.std.proofs.Common.{◌≡◌, ℕ, [], Option, Some, None, refl, sym}
use Rattle.std.specs.Option.{option_map_or}
use Rattle.model_core.specs.EventGraph.{EventGraph, EventVertex}
use Rattle.model_core.specs.Run.Step.{vertex_at}
use Rattle.model_core.specs.Text.Canonical.{vertex_name}
use Rattle.model_core.specs.Rules.UrgentEdges.{plain_urgent}
use Rattle.model_core.specs.Rules.Merge.{values_at_once, merged_vertex, merged_with, merged}
use Rattle.model_core.proofs.PlacesChanged.{shown_placed}

pub name_stays : (b a : EventVertex) → (merged_with b a).name ≡ a.name
name_stays b a = by_edge (plain_urgent a) where
  by_edge : (o : Option ℕ) → (option_map_or (merged_vertex b (values_at_once a) a) o a).name ≡ a.name
  by_edge None = refl
  by_edge (Some place) = refl

pub merged-named : (g : EventGraph) (first second k : ℕ) → vertex_name (merged g first second) k ≡ vertex_name g k
merged-named g first second k = let b = vertex_at g second in sym (shown_placed (λ (v : EventVertex). v.name) (merged_with b) [] (name_stays b) first g.vertices k)
