-- For each variable the parts of a model that read it.
use Rattle.std.specs.Prelude.{◌≡◌, ℕ, ◌+◌, ◌-◌, ◌<◌, ◌==◌, Bool, true, false, not, ◌&&◌, cond, List, [], ◌∷◌, ◌++◌, length, map, take, drop, slice_get, slice_index_or, Contains}
use Rattle.std.specs.List.{range_with_len, flat_map}
use Rattle.std.specs.Option.{option_map_or}
use Rattle.model_core.specs.Rules.PlacedEdges.{with_place}
use Rattle.range_infer.specs.declared.part_reads.ValueReads.{ValueReads}
use Rattle.range_infer.specs.declared.part_reads.EdgeReads.{EdgeReads}
use Rattle.range_infer.specs.declared.part_reads.VertexReads.{VertexReads}
use Rattle.range_infer.specs.declared.readers.PartPlace.{PartPlace}
use Rattle.range_infer.specs.Inner.Moved.{is_moved}

-- the element at a place, if there is one
abbrev pub one_at : {A : Type 0} → ℕ → List A → List A
one_at k xs = take 1 (drop k xs)

-- ---- the variables that a part reads

abbrev pub value_vars : List ValueReads → List ℕ
value_vars values = flat_map (λ (value : ValueReads). value.vars) values

abbrev pub edge_vars : EdgeReads → List ℕ
edge_vars e = e.condition ++ value_vars e.values

abbrev pub vertex_part_vars : PartPlace → VertexReads → List ℕ
vertex_part_vars p u = cond p.is_edge (flat_map edge_vars (one_at p.place u.carried)) (flat_map value_vars (one_at p.place u.sets))

abbrev pub part_vars : List VertexReads → PartPlace → List ℕ
part_vars all p = flat_map (vertex_part_vars p) (one_at p.vertex all)

-- ---- parts put into the lists of the variables that they read

-- two places of one part
abbrev pub is_same_part : PartPlace → PartPlace → Bool
is_same_part a b = (a.vertex == b.vertex) && ((a.place == b.place) && cond a.is_edge b.is_edge (not b.is_edge))

-- this part is the last of these
abbrev pub ends_with_part : List PartPlace → PartPlace → Bool
ends_with_part parts p = option_map_or (λ last. is_same_part last p) (slice_get parts (length parts - 1)) false

-- the parts with one more, unless it is the last of them
abbrev pub with_part : PartPlace → List PartPlace → List PartPlace
with_part p parts = cond (ends_with_part parts p) parts (parts ++ p ∷ [])

-- lists in which something is put for one element after the other, at places from this one on
abbrev pub put_each : {A : Type 0} → (ℕ → List (List PartPlace) → A → List (List PartPlace)) → ℕ → List (List PartPlace) → List A → List (List PartPlace)
put_each put k lists [] = lists
put_each put k lists (x ∷ xs) = put_each put (k + 1) (put k lists x) xs

-- a part that reads these variables
abbrev pub put_variables : PartPlace → List (List PartPlace) → List ℕ → List (List PartPlace)
put_variables p = put_each (λ k lists v. with_place (with_part p) v lists) 0

abbrev pub put_values : PartPlace → List (List PartPlace) → List ValueReads → List (List PartPlace)
put_values p = put_each (λ k lists value. put_variables p lists value.vars) 0

abbrev pub put_edge : PartPlace → List (List PartPlace) → EdgeReads → List (List PartPlace)
put_edge p lists e = put_values p (put_variables p lists e.condition) e.values

-- the changes and the edges of the vertex at a place
abbrev pub put_changes : ℕ → List (List PartPlace) → List (List ValueReads) → List (List PartPlace)
put_changes i = put_each (λ k. put_values (record { vertex = i; is_edge = false; place = k })) 0

abbrev pub put_edges : ℕ → List (List PartPlace) → List EdgeReads → List (List PartPlace)
put_edges i = put_each (λ k. put_edge (record { vertex = i; is_edge = true; place = k })) 0

abbrev pub put_vertex : ℕ → List (List PartPlace) → VertexReads → List (List PartPlace)
put_vertex i lists u = put_edges i (put_changes i lists u.sets) u.carried

-- so many lists without a part
abbrev pub no_readers : ℕ → List (List PartPlace)
no_readers count = map (λ k. []) (range_with_len 0 count)

-- the lists for so many variables, where parts read this
abbrev pub readers_in : ℕ → List VertexReads → List (List PartPlace)
readers_in count = put_each put_vertex 0 (no_readers count)

-- among these parts are those of the lists of variables that moved, of so many variables
abbrev pub HasReaders : List Bool → List (List PartPlace) → ℕ → List PartPlace → Type 0
HasReaders moved readers n parts = (v : ℕ) → v < n → is_moved moved v ≡ true → (p : PartPlace) → Contains (slice_index_or readers v []) p → Contains parts p
