-- Each part is in the list of each variable that it reads.
use Rattle.std.proofs.Common.{◌≡◌, ◌⊎◌, inl, inr, ℕ, zero, suc, ◌+◌, ◌-◌, ◌<◌, ◌==◌, Bool, true, false, not, cond, List, [], ◌∷◌, ◌++◌, length, slice_index_or, refl, sym, ◌∙◌, ap, ap₂, subst, arith}
use Rattle.std.specs.Prelude.{slice_get}
use Rattle.std.specs.Option.{option_map_or}
use Rattle.std.proofs.lemmas.List.FromFn.{length-map-range_with_len}
use Rattle.std.proofs.lemmas.Bool.{eqb-true}
use Rattle.model_core.specs.Rules.PlacedEdges.{with_place}
use Rattle.model_core.proofs.Among.{Among, among-front, among-back, among-either, among-of_flat_map}
use Rattle.model_core.proofs.BothTrue.{and_first, and_second}
use Rattle.model_core.proofs.PlacesChanged.{length_placed, placed-there}
use Rattle.range_infer.specs.declared.part_reads.ValueReads.{ValueReads}
use Rattle.range_infer.specs.declared.part_reads.EdgeReads.{EdgeReads}
use Rattle.range_infer.specs.declared.part_reads.VertexReads.{VertexReads}
use Rattle.range_infer.specs.declared.readers.PartPlace.{PartPlace}
use Rattle.range_infer.specs.Inner.Readers.{one_at, value_vars, edge_vars, vertex_part_vars, part_vars, is_same_part, ends_with_part, with_part, put_each, put_variables, put_values, put_edge, put_changes, put_edges, put_vertex, no_readers, readers_in}

abbrev pub Lists : Type 0
Lists = List (List PartPlace)

-- the part is in the list of the variable
abbrev pub IsReader : Lists → ℕ → PartPlace → Type 0
IsReader lists v p = Among p (slice_index_or lists v [])

-- what was put stays
pub record Keeps (old new : Lists) : Type 0 where
  pub long : length new ≡ length old
  pub readers : (v : ℕ) (p : PartPlace) → IsReader old v p → IsReader new v p

keeps-trans : (a b c : Lists) → Keeps a b → Keeps b c → Keeps a c
keeps-trans a b c i j = record { long = j.long ∙ i.long; readers = λ v p there. j.readers v p (i.readers v p there) }

-- ---- one part after the other

module _ {A : Type 0} (put : ℕ → Lists → A → Lists) (keeps : (k : ℕ) (lists : Lists) (x : A) → Keeps lists (put k lists x)) where
  each-keeps : (k : ℕ) (lists : Lists) (xs : List A) → Keeps lists (put_each put k lists xs)
  each-keeps k lists [] = record { long = refl; readers = λ v p there. there }
  each-keeps k lists (x ∷ xs) = keeps-trans lists (put k lists x) (put_each put (k + 1) (put k lists x) xs) (keeps k lists x) (each-keeps (k + 1) (put k lists x) xs)

  module _ (n v : ℕ) (p : PartPlace) (x : A) where
    -- what is put for one of the elements, wherever it is
    each-among : ((k : ℕ) (lists : Lists) → length lists ≡ n → IsReader (put k lists x) v p) → (k : ℕ) (lists : Lists) → length lists ≡ n → (xs : List A) → Among x xs → IsReader (put_each put k lists xs) v p
    each-among there k lists long [] among = absurd among
    each-among there k lists long (y ∷ xs) (inl same) =
        (each-keeps (k + 1) (put k lists y) xs).readers v p (subst (λ (z : A). IsReader (put k lists z) v p) (sym same) (there k lists long))
    each-among there k lists long (y ∷ xs) (inr later) = each-among there (k + 1) (put k lists y) ((keeps k lists y).long ∙ long) xs later

    -- what is put for the element at a place
    each-there : (place : ℕ) → ((lists : Lists) → length lists ≡ n → IsReader (put place lists x) v p) → (k j : ℕ) → k + j ≡ place → (lists : Lists) → length lists ≡ n → (xs : List A) → Among x (one_at j xs) → IsReader (put_each put k lists xs) v p
    each-there place there k zero is lists long [] among = absurd among
    each-there place there k (suc j) is lists long [] among = absurd among
    each-there place there k zero is lists long (y ∷ xs) (inr none) = absurd none
    each-there place there k zero is lists long (y ∷ xs) (inl same) =
        let so : place ≡ k = omega (arith, is) in
        (each-keeps (k + 1) (put k lists y) xs).readers v p
        (subst (λ (z : A). IsReader (put k lists z) v p) (sym same) (subst (λ (m : ℕ). IsReader (put m lists x) v p) so (there lists long)))
    each-there place there k (suc j) is lists long (y ∷ xs) among =
        each-there place there (k + 1) j (omega (arith, is)) (put k lists y) ((keeps k lists y).long ∙ long) xs among

-- ---- a part that is put once

bools_same : (a b : Bool) → cond a b (not b) ≡ true → a ≡ b
bools_same true true e = refl
bools_same true false e = cc
bools_same false true e = cc
bools_same false false e = refl

same_part : (a b : PartPlace) → is_same_part a b ≡ true → a ≡ b
same_part a b e =
    let rest = and_second (a.vertex == b.vertex) _ e in
    let vertex = eqb-true a.vertex b.vertex (and_first (a.vertex == b.vertex) _ e) in
    let place = eqb-true a.place b.place (and_first (a.place == b.place) _ rest) in
    let kind = bools_same a.is_edge b.is_edge (and_second (a.place == b.place) _ rest) in
    ap₂ (λ (i j : ℕ). let p : PartPlace = record { vertex = i; is_edge = a.is_edge; place = j } in p) vertex place
    ∙ ap (λ (k : Bool). let p : PartPlace = record { vertex = b.vertex; is_edge = k; place = b.place } in p) kind

got : (p : PartPlace) (parts : List PartPlace) (k : ℕ) → option_map_or (λ last. is_same_part last p) (slice_get parts k) false ≡ true → Among p parts
got p [] k e = cc
got p (q ∷ parts) zero e = inl (same_part q p e)
got p (q ∷ parts) (suc k) e = inr (got p parts k e)

part-there : (p : PartPlace) (parts : List PartPlace) → Among p (with_part p parts)
part-there p parts = by (ends_with_part parts p) refl where
  by : (b : Bool) → ends_with_part parts p ≡ b → Among p (cond b parts (parts ++ p ∷ []))
  by true is = got p parts (length parts - 1) is
  by false is = among-back parts (p ∷ []) p (inl refl)

part-keeps : (p : PartPlace) (parts : List PartPlace) (q : PartPlace) → Among q parts → Among q (with_part p parts)
part-keeps p parts q there = by (ends_with_part parts p) where
  by : (b : Bool) → Among q (cond b parts (parts ++ p ∷ []))
  by true = there
  by false = among-front parts (p ∷ []) q there

-- ---- a part in the list of a variable

placed-keeps : (p : PartPlace) (w : ℕ) (lists : Lists) (v : ℕ) (q : PartPlace) → IsReader lists v q → IsReader (with_place (with_part p) w lists) v q
placed-keeps p w [] v q there = there
placed-keeps p zero (x ∷ lists) zero q there = part-keeps p x q there
placed-keeps p zero (x ∷ lists) (suc v) q there = there
placed-keeps p (suc w) (x ∷ lists) zero q there = there
placed-keeps p (suc w) (x ∷ lists) (suc v) q there = placed-keeps p w lists v q there

variable-keeps : (p : PartPlace) (k : ℕ) (lists : Lists) (w : ℕ) → Keeps lists (with_place (with_part p) w lists)
variable-keeps p k lists w = record { long = length_placed (with_part p) w lists; readers = placed-keeps p w lists }

variable-there : (p : PartPlace) (v : ℕ) (lists : Lists) → v < length lists → IsReader (with_place (with_part p) v lists) v p
variable-there p v lists small =
    subst (Among p) (sym (placed-there (with_part p) v lists [] small)) (part-there p (slice_index_or lists v []))

module _ (n v : ℕ) (small : v < n) where
  variables-keep : (p : PartPlace) (k : ℕ) (lists : Lists) (vs : List ℕ) → Keeps lists (put_variables p lists vs)
  variables-keep p k lists vs = each-keeps (λ k lists v. with_place (with_part p) v lists) (variable-keeps p) 0 lists vs

  variables-there : (p : PartPlace) (lists : Lists) → length lists ≡ n → (vs : List ℕ) → Among v vs → IsReader (put_variables p lists vs) v p
  variables-there p lists long vs among =
      each-among (λ k lists v. with_place (with_part p) v lists) (variable-keeps p) n v p v
      (λ k lists long. variable-there p v lists (omega (arith, long, small))) 0 lists long vs among

  values-keep : (p : PartPlace) (lists : Lists) (values : List ValueReads) → Keeps lists (put_values p lists values)
  values-keep p lists values = each-keeps (λ k lists value. put_variables p lists value.vars) (λ k lists value. variables-keep p k lists value.vars) 0 lists values

  values-there : (p : PartPlace) (lists : Lists) → length lists ≡ n → (values : List ValueReads) → Among v (value_vars values) → IsReader (put_values p lists values) v p
  values-there p lists long values among =
      let (value, there, reads) = among-of_flat_map (λ (value : ValueReads). value.vars) values v among in
      each-among (λ k lists value. put_variables p lists value.vars) (λ k lists value. variables-keep p k lists value.vars) n v p value
      (λ k lists long. variables-there p lists long value.vars reads) 0 lists long values there

  edge-keeps : (p : PartPlace) (lists : Lists) (e : EdgeReads) → Keeps lists (put_edge p lists e)
  edge-keeps p lists e =
      let first = put_variables p lists e.condition in
      keeps-trans lists first (put_values p first e.values) (variables-keep p 0 lists e.condition) (values-keep p first e.values)

  edge-there : (p : PartPlace) (lists : Lists) → length lists ≡ n → (e : EdgeReads) → Among v (edge_vars e) → IsReader (put_edge p lists e) v p
  edge-there p lists long e among = by (among-either e.condition (value_vars e.values) v among) where
    first : Lists
    first = put_variables p lists e.condition

    by : Among v e.condition ⊎ Among v (value_vars e.values) → IsReader (put_values p first e.values) v p
    by (inl here) = (values-keep p first e.values).readers v p (variables-there p lists long e.condition here)
    by (inr later) = values-there p first ((variables-keep p 0 lists e.condition).long ∙ long) e.values later

  -- ---- the parts of vertices

  abbrev change_at : ℕ → ℕ → PartPlace
  change_at i j = record { vertex = i; is_edge = false; place = j }

  abbrev edge_at : ℕ → ℕ → PartPlace
  edge_at i j = record { vertex = i; is_edge = true; place = j }

  changes-keep : (i : ℕ) (lists : Lists) (sets : List (List ValueReads)) → Keeps lists (put_changes i lists sets)
  changes-keep i lists sets = each-keeps (λ k. put_values (change_at i k)) (λ k. values-keep (change_at i k)) 0 lists sets

  edges-keep : (i : ℕ) (lists : Lists) (carried : List EdgeReads) → Keeps lists (put_edges i lists carried)
  edges-keep i lists carried = each-keeps (λ k. put_edge (edge_at i k)) (λ k. edge-keeps (edge_at i k)) 0 lists carried

  vertex-keeps : (i : ℕ) (lists : Lists) (u : VertexReads) → Keeps lists (put_vertex i lists u)
  vertex-keeps i lists u =
      let first = put_changes i lists u.sets in
      keeps-trans lists first (put_edges i first u.carried) (changes-keep i lists u.sets) (edges-keep i first u.carried)

  vertex-there : (i j : ℕ) (kind : Bool) (lists : Lists) → length lists ≡ n → (u : VertexReads) → let p : PartPlace = record { vertex = i; is_edge = kind; place = j } in Among v (vertex_part_vars p u) → IsReader (put_vertex i lists u) v p
  vertex-there i j false lists long u among =
      let (reads, there, has) = among-of_flat_map value_vars (one_at j u.sets) v among in
      let first = put_changes i lists u.sets in
      (edges-keep i first u.carried).readers v (change_at i j)
      (each-there (λ k. put_values (change_at i k)) (λ k. values-keep (change_at i k)) n v (change_at i j) reads j
      (λ lists long. values-there (change_at i j) lists long reads has) 0 j (omega arith) lists long u.sets there)
  vertex-there i j true lists long u among =
      let (reads, there, has) = among-of_flat_map edge_vars (one_at j u.carried) v among in
      let first = put_changes i lists u.sets in
      each-there (λ k. put_edge (edge_at i k)) (λ k. edge-keeps (edge_at i k)) n v (edge_at i j) reads j
      (λ lists long. edge-there (edge_at i j) lists long reads has) 0 j (omega arith) first ((changes-keep i lists u.sets).long ∙ long) u.carried there

  pub reader-found : (all : List VertexReads) (p : PartPlace) → Among v (part_vars all p) → IsReader (readers_in n all) v p
  reader-found all p among =
      let (reads, there, has) = among-of_flat_map (vertex_part_vars p) (one_at p.vertex all) v among in
      let none : ℕ → List PartPlace = λ k. [] in
      each-there put_vertex vertex-keeps n v p reads p.vertex
      (λ lists long. vertex-there p.vertex p.place p.is_edge lists long reads has) 0 p.vertex (omega arith) (no_readers n) (length-map-range_with_len none 0 n) all there
