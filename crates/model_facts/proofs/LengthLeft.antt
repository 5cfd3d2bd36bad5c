-- How long a text is without lines that go.
use Rattle.std.proofs.Common.{◌≡◌, ◌∙◌, ℕ, zero, suc, ◌+◌, ◌-◌, ◌^◌, ◌≤◌, nat_lt, Bool, true, false, ◌&&◌, cond, List, [], ◌∷◌, length, slice_get, slice_index_or, Option, Some, None, refl, sym, ap, arith, subst, length-append}
use Rattle.std.specs.List.{flat_map}
use Rattle.std.specs.Option.{SomeIff, option_and_then}
use Rattle.model_core.specs.EventGraph.{EventGraph, EventVertex}
use Rattle.model_core.specs.Run.Step.{no_vertex, vertex_at}
use Rattle.model_core.specs.Text.Canonical.{vertex_lines, version_line, canonical}
use Rattle.model_core.specs.Text.VersionNeeded.{needs_version_two}
use Rattle.model_facts.specs.FactsOfModel.{LinesAreRight}
use Rattle.model_facts.specs.FactsAfterDrop.{bytes_with_vertex, bytes_with_vertices}

pub length_left : (g h : EventGraph) (old : Option ℕ) (n lines more : ℕ) (left : Option ℕ) → old ≡ Some n → LinesAreRight g old → lines ≡ more
    → length (canonical h) + length (version_line (needs_version_two g)) + more ≡ length (canonical g) + length (version_line (needs_version_two h)) → SomeIff left (lines ≤ n) (n - lines) → LinesAreRight h left
length_left g h old n lines more None is right same parted taken = tt
length_left g h old n lines more (Some left) is right same parted taken =
    let whole : length (version_line (needs_version_two g)) + n ≡ length (canonical g) = subst (LinesAreRight g) is right in
    let within = taken.0 in
    let rest = taken.1 in
    omega (arith, whole, same, parted, within, rest)

-- the vertex at a place is the one of the list there
there-at : (vs : List EventVertex) (k : ℕ) (v : EventVertex) → slice_get vs k ≡ Some v → v ≡ slice_index_or vs k no_vertex
there-at [] k v is = cc
there-at (w ∷ vs) zero v is = cc
there-at (w ∷ vs) (suc k) v is = there-at vs k v is

one-counted : (g : EventGraph) (bytes k n : ℕ) → bytes_with_vertex g bytes k ≡ Some n → n ≡ bytes + length (vertex_lines g (vertex_at g k))
one-counted g bytes k n is = by (slice_get g.vertices k) refl is where
  by : (o : Option EventVertex) → slice_get g.vertices k ≡ o
      → option_and_then (λ (v : EventVertex). cond (nat_lt (length (vertex_lines g v)) (2 ^ 64 - 1) && nat_lt (bytes + length (vertex_lines g v)) (2 ^ 64)) (Some (bytes + length (vertex_lines g v))) None) o ≡ Some n
      → n ≡ bytes + length (vertex_lines g (vertex_at g k))
  by None none is = cc
  by (Some v) at is = tested (nat_lt (length (vertex_lines g v)) (2 ^ 64 - 1) && nat_lt (bytes + length (vertex_lines g v)) (2 ^ 64)) is where
    tested : (b : Bool) → cond b (Some (bytes + length (vertex_lines g v))) None ≡ Some n → n ≡ bytes + length (vertex_lines g (vertex_at g k))
    tested true is = let same : bytes + length (vertex_lines g v) ≡ n = cc in sym same ∙ ap (λ (v : EventVertex). bytes + length (vertex_lines g v)) (there-at g.vertices k v at)
    tested false is = cc

-- what is counted are the bytes of all their lines
all-counted : (g : EventGraph) (bytes : ℕ) (ks : List ℕ) (n : ℕ) → bytes_with_vertices g bytes ks ≡ Some n → n ≡ bytes + length (flat_map (λ k. vertex_lines g (vertex_at g k)) ks)
all-counted g bytes [] n is = let same : bytes ≡ n = cc in omega (arith, same)
all-counted g bytes (k ∷ ks) n is = by (bytes_with_vertex g bytes k) (λ more. all-counted g more ks n) refl is where
  by : (o : Option ℕ) → ((more : ℕ) → bytes_with_vertices g more ks ≡ Some n → n ≡ more + length (flat_map (λ k. vertex_lines g (vertex_at g k)) ks)) → bytes_with_vertex g bytes k ≡ o
      → option_and_then (λ more. bytes_with_vertices g more ks) o ≡ Some n → n ≡ bytes + length (flat_map (λ k. vertex_lines g (vertex_at g k)) (k ∷ ks))
  by None later none is = cc
  by (Some more) later at is =
      let first = one-counted g bytes k more at in
      let rest = later more is in
      let both = length-append (vertex_lines g (vertex_at g k)) (flat_map (λ k. vertex_lines g (vertex_at g k)) ks) in
      omega (arith, first, rest, both)

pub lines-counted : (g : EventGraph) (ks : List ℕ) (n : ℕ) → bytes_with_vertices g 0 ks ≡ Some n → n ≡ length (flat_map (λ k. vertex_lines g (vertex_at g k)) ks)
lines-counted g ks n is = let sum = all-counted g 0 ks n is in omega (arith, sum)
