-- How long a vertex's lines are, and how long the canonical text is where one vertex is changed.
use Rattle.std.proofs.Common.{◌≡◌, ℕ, ◌+◌, ◌<◌, ◌≤◌, ◌==◌, Bool, true, false, List, ◌∷◌, ◌++◌, map, length, slice_get, Some, refl, sym, ◌∙◌, ap, arith, length-append}
use Rattle.std.specs.Prelude.{codes, []}
use Rattle.std.specs.List.{flat_map}
use Rattle.std.proofs.lemmas.Grind.{flat_map-append}
use Rattle.model_core.specs.EventGraph.{EventGraph, EventVertex}
use Rattle.model_core.specs.Run.Step.{vertex_at, no_vertex}
use Rattle.model_core.specs.Text.Canonical.{variable_name, in_parentheses, change_line, edge_line, vertex_lines, variable_line, table_line, watched_name, watch_names_line, watch_line, version_line, canonical}
use Rattle.model_core.specs.Text.VersionNeeded.{needs_version_two}
use Rattle.model_core.specs.Rules.PlacedEdges.{with_vertex}
use Rattle.model_core.proofs.PlacesChanged.{shown_placed, placed-there, placed-elsewhere}
use Rattle.model_core.proofs.SameNames.{SameNames, map_alike, flat_map_alike, change_alike, edge_alike, vertex_alike, watched_alike}
use Rattle.vertex_laws.specs.BodyLines.{body_lines}
use Rattle.vertex_laws.proofs.PlacedElement.{lengths_placed}

-- the line of the version is a part of the text
pub version_within : (g : EventGraph) → length (version_line (needs_version_two g)) ≤ length (canonical g)
version_within g =
    within (needs_version_two g)
  where
    within : (b : Bool) → length (version_line b) ≤ length (version_line b ++ codes "model " ++ g.name ++ codes ";\n" ++ flat_map variable_line g.variables ++ flat_map table_line g.tables ++ watch_line g ++ flat_map (vertex_lines g) g.vertices ++ codes "end\n")
    within true = omega arith
    within false = omega arith

abbrev pub total : {A : Type 0} → (A → List ℕ) → List A → ℕ
total gives xs = length (flat_map gives xs)

pub total_joined : {A : Type 0} (gives : A → List ℕ) (xs ys : List A) → total gives (xs ++ ys) ≡ total gives xs + total gives ys
total_joined gives xs ys = ap length (flat_map-append gives xs ys) ∙ length-append (flat_map gives xs) (flat_map gives ys)

pub total_more : {A : Type 0} (gives : A → List ℕ) (x : A) (xs : List A) → total gives (x ∷ xs) ≡ length (gives x) + total gives xs
total_more gives x xs = length-append (gives x) (flat_map gives xs)

-- ---- a vertex's lines, by those of its changes and of its edges

abbrev pub heading : EventGraph → List ℕ → List ℕ → List ℕ
heading g name parameters = codes "vertex " ++ name ++ in_parentheses (map (variable_name g) parameters) ++ codes " {\n"

abbrev pub closing : List ℕ
closing = codes "}\n"

pub lines_length : (g : EventGraph) (v : EventVertex) → length (vertex_lines g v) ≡ length (heading g v.name v.parameters) + total (change_line g) v.changes + total (edge_line g) v.edges + length closing
lines_length g v =
    length-append (heading g v.name v.parameters ++ flat_map (change_line g) v.changes ++ flat_map (edge_line g) v.edges) closing ∙
    ap (λ n. n + length closing) (length-append (heading g v.name v.parameters ++ flat_map (change_line g) v.changes) (flat_map (edge_line g) v.edges) ∙
    ap (λ n. n + total (edge_line g) v.edges) (length-append (heading g v.name v.parameters) (flat_map (change_line g) v.changes)))

-- the lines of its changes and edges
pub body_length : (g : EventGraph) (v : EventVertex) → length (body_lines g v) ≡ total (change_line g) v.changes + total (edge_line g) v.edges
body_length g v = length-append (flat_map (change_line g) v.changes) (flat_map (edge_line g) v.edges)

-- ---- a text in which one vertex is changed

module _ (g : EventGraph) (f : EventVertex → EventVertex) (name_kept : (x : EventVertex) → (f x).name ≡ x.name) (first : ℕ) where
  abbrev pub changed : EventGraph
  changed = with_vertex f first g

  same_names : SameNames g changed
  same_names = record { variable = λ v. refl; table = λ t. refl; vertex = shown_placed (λ (x : EventVertex). x.name) f [] name_kept first g.vertices }

  -- what vertices do has the lines that it had, but for that vertex
  body_alike : (v : EventVertex) → body_lines g v ≡ body_lines changed v
  body_alike v = λ i. flat_map_alike (change_line g) (change_line changed) (change_alike g changed same_names) v.changes i ++ flat_map_alike (edge_line g) (edge_line changed) (edge_alike g changed same_names) v.edges i

  pub body_elsewhere : (k : ℕ) → (k == first) ≡ false → body_lines changed (vertex_at changed k) ≡ body_lines g (vertex_at g k)
  body_elsewhere k apart = ap (body_lines changed) (placed-elsewhere f first k g.vertices no_vertex apart) ∙ sym (body_alike (vertex_at g k))

  pub body_there : first < length g.vertices → body_lines changed (vertex_at changed first) ≡ body_lines g (f (vertex_at g first))
  body_there below = ap (body_lines changed) (placed-there f first g.vertices no_vertex below) ∙ sym (body_alike (f (vertex_at g first)))

  all_lines : flat_map (vertex_lines g) changed.vertices ≡ flat_map (vertex_lines changed) changed.vertices
  all_lines = flat_map_alike (vertex_lines g) (vertex_lines changed) (vertex_alike g changed same_names) changed.vertices

  watch_alike : watch_line g ≡ watch_line changed
  watch_alike = ap watch_names_line (map_alike (watched_name g) (watched_name changed) (watched_alike g changed same_names) g.watch)

  abbrev opening : Bool → List ℕ
  opening needed = version_line needed ++ codes "model " ++ g.name ++ codes ";\n" ++ flat_map variable_line g.variables ++ flat_map table_line g.tables

  canonical_length : (needed : Bool) (watch : List ℕ) (lines : List ℕ) → length (opening needed ++ watch ++ lines ++ codes "end\n") ≡ length (opening needed) + length watch + length lines + length (codes "end\n")
  canonical_length needed watch lines =
      length-append (opening needed ++ watch ++ lines) (codes "end\n")
      ∙ ap (λ n. n + length (codes "end\n")) (length-append (opening needed ++ watch) lines ∙ ap (λ n. n + length lines) (length-append (opening needed) watch))

  opening_length : (b c : Bool) → length (opening b) + length (version_line c) ≡ length (opening c) + length (version_line b)
  opening_length true true = refl
  opening_length true false = omega arith
  opening_length false true = omega arith
  opening_length false false = refl

  -- after the line of the version, the text has the vertex's new lines in place of its lines
  pub changed-later_lines : (v : EventVertex) → slice_get g.vertices first ≡ Some v
      → length (canonical changed) + length (version_line (needs_version_two g)) + length (vertex_lines g (vertex_at g first)) ≡ length (canonical g) + length (version_line (needs_version_two changed)) + length (vertex_lines g (f (vertex_at g first)))
  changed-later_lines v there =
      let new = canonical_length (needs_version_two changed) (watch_line changed) (flat_map (vertex_lines changed) changed.vertices) in
      let old = canonical_length (needs_version_two g) (watch_line g) (flat_map (vertex_lines g) g.vertices) in
      let version = opening_length (needs_version_two changed) (needs_version_two g) in
      let watch = ap length watch_alike in
      let lines = ap length all_lines in
      let placed = lengths_placed (vertex_lines g) f first g.vertices no_vertex v there in
      omega (arith, new, old, version, watch, lines, placed)

  -- and so has the whole text, where it needs that line as before
  pub changed_length : needs_version_two changed ≡ needs_version_two g → (v : EventVertex) → slice_get g.vertices first ≡ Some v → length (canonical changed) + length (vertex_lines g (vertex_at g first)) ≡ length (canonical g) + length (vertex_lines g (f (vertex_at g first)))
  changed_length needed v there =
      let later_lines = changed-later_lines v there in
      let version = ap (λ b. length (version_line b)) needed in
      omega (arith, later_lines, version)
