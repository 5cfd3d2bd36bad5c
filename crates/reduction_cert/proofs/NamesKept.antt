-- Which applications leave the names of vertices as they are, so that a table of their places stays right.
use Rattle.std.proofs.Common.{◌≡◌, ℕ, false, List, Option, Some, None, refl, sym, ap, ◌∙◌, subst}
use Rattle.std.specs.Option.{option_map_or}
use Rattle.std.proofs.lemmas.Simd.{map-map}
use Rattle.model_core.specs.EventGraph.{EventVertex, EventGraph}
use Rattle.model_core.specs.Run.Step.{vertex_at}
use Rattle.model_core.specs.Rules.PlacedEdges.{with_place}
use Rattle.model_core.specs.Rules.Prune.{without_edge, pruned}
use Rattle.model_core.specs.Rules.Settle.{with_settled, settled}
use Rattle.model_core.specs.Rules.Merge.{merged_with, merged}
use Rattle.model_core.specs.Rules.Slice.{sliced_vertex, sliced}
use Rattle.model_core.specs.Rules.Reduction.{RuleApplication, Prune, Settle, Drop, Merge, Slice, edge_named, two_vertices_named, variables_named, result_of, applied}
use Rattle.model_core.proofs.PlacesChanged.{map_placed}
use Rattle.vertex_laws.proofs.MergedNames.{name_stays}
use Rattle.model_read.specs.NamesPlaced.{HasPlaces, names_of_vertices}
use Rattle.reduction_cert.specs.Inner.DropApplications.{is_drop}
use Rattle.reduction_cert.proofs.Chains.{applied-is}

abbrev names : EventGraph → List (List ℕ)
names g = names_of_vertices g.vertices

-- what leaves the names where it is given leaves them
kept_or : {P : Type 0} (g : EventGraph) (o : Option P) (result : P → EventGraph) → ((p : P) → names (result p) ≡ names g) → names (option_map_or result o g) ≡ names g
kept_or g None result kept = refl
kept_or g (Some p) result kept = kept p

pub placed_kept : (f : EventVertex → EventVertex) → ((v : EventVertex) → (f v).name ≡ v.name) → (k : ℕ) (vs : List EventVertex) → names_of_vertices (with_place f k vs) ≡ names_of_vertices vs
placed_kept f same k vs = map_placed (λ (v : EventVertex). v.name) f same k vs

result_names : (g : EventGraph) (a : RuleApplication) → is_drop a ≡ false → names (result_of g a) ≡ names g
result_names g (Prune name number) e = kept_or g (edge_named g name number) (λ (vertex, edge). pruned g vertex edge) (λ (vertex, edge). placed_kept (without_edge edge) (λ v. refl) vertex g.vertices)
result_names g (Settle name number) e = kept_or g (edge_named g name number) (λ (vertex, edge). settled g vertex edge) (λ (vertex, edge). placed_kept (with_settled edge) (λ v. refl) vertex g.vertices)
result_names g (Drop dropped) e = cc
result_names g (Merge name target) e = kept_or g (two_vertices_named g name target) (λ (first, second). merged g first second) (λ (first, second). placed_kept (merged_with (vertex_at g second)) (name_stays (vertex_at g second)) first g.vertices)
result_names g (Slice variables) e = kept_or g (variables_named g variables) (λ vars. sliced g vars) (λ vars. map-map (λ (v : EventVertex). v.name) (sliced_vertex g _) g.vertices)

pub table_kept : (g h : EventGraph) (a : RuleApplication) (table : List (List ℕ × ℕ)) → is_drop a ≡ false → applied g a ≡ Some h → HasPlaces (names_of_vertices g.vertices) table → HasPlaces (names_of_vertices h.vertices) table
table_kept g h a table e made has = subst (λ ns. HasPlaces ns table) (sym (result_names g a e) ∙ ap names ((applied-is g h a).0 made).1) has
