-- Dropping vertices takes their lines alone from the canonical text after the line of its version. That line stays as it is
-- where none of them needs version 2 of a text.
use Rattle.std.proofs.Common.{◌≡◌, inl, inr, ℕ, zero, suc, cond, ◌||◌, ◌+◌, ◌<◌, ◌≤◌, Bool, true, false, not, List, [], ◌∷◌, ◌++◌, map, filter, length, slice_get, slice_index_or, None, refl, sym, ap, ap₂, subst, arith, ◌∙◌, length-append}
use Rattle.std.specs.Prelude.{codes, nat_lt, Option}
use Rattle.std.proofs.lemmas.Bool.Decides.{nat_tests}
use Rattle.std.specs.List.{flat_map, list_any, range_with_len}
use Rattle.std.specs.Option.{option_map_or}
use Rattle.std.proofs.lemmas.Simd.{map-map}
use Rattle.std.proofs.lemmas.Option.{slice_get_past}
use Rattle.model_core.specs.EventGraph.{EventGraph, EventVertex, EventEdge, Watched, WatchedVariable, WatchedVertex}
use Rattle.model_core.specs.Run.Step.{no_vertex, vertex_at}
use Rattle.model_core.specs.Text.Canonical.{vertex_name, vertex_lines, variable_name, change_line, edge_line, edge_word, expression_texts, timing_text, condition_text, in_parentheses, variable_line, table_line, watched_name, watch_names_line, watch_line, canonical, version_line}
use Rattle.model_core.specs.Text.VersionNeeded.{is_large_array, has_later_parts, needs_version_two}
use Rattle.model_core.specs.Rules.Conditions.{first_failed}
use Rattle.model_core.specs.Rules.MarkedPlaces.{rank, marked_of, is_marked, unmarked_places}
use Rattle.model_core.specs.Rules.Reached.{reached_marks, unreached}
use Rattle.model_core.specs.Rules.Drop.{edge_renumbered, vertex_renumbered, watched_renumbered, drop_conditions, only_marked, dropped}
use Rattle.mark_laws.proofs.Marks.{Marked, get-marked}
use Rattle.mark_laws.proofs.MarksBelow.{marked-among}
use Rattle.mark_laws.proofs.ReachedLong.{reached_marks-long}
use Rattle.model_core.proofs.Among.{Among}
use Rattle.model_core.proofs.Images.{shown-map, flat_map-map}
use Rattle.model_core.proofs.VersionParts.{list_any-map, has_later_parts-renumbered}
use Rattle.mark_laws.proofs.MarkedItems.{marked_of-map}
use Rattle.edge_pruning.proofs.DropResult.{lists_unreached, without_unreached}
use Rattle.edge_pruning.proofs.ReachedMarks.{watched-begins, HoldReached, reached_marks-hold}
use Rattle.edge_pruning.proofs.ValidDropped.{map-alike, flat_map-alike}

-- ---- marked and unmarked elements

-- the new texts of the marked elements, which are their old ones, and the old texts of the others are as long as all old texts
parted-length : {A : Type 0} (old new : A → List ℕ) (marks : List Bool) (xs : List A) → length marks ≡ length xs → ((x : A) → Among x (marked_of marks xs) → new x ≡ old x)
    → length (flat_map new (marked_of marks xs)) + length (flat_map old (marked_of (map not marks) xs)) ≡ length (flat_map old xs)
parted-length old new [] [] long same = refl
parted-length old new [] (x ∷ xs) long same = absurd (omega (arith, long))
parted-length old new (b ∷ bs) [] long same = absurd (omega (arith, long))
parted-length old new (true ∷ bs) (x ∷ xs) long same =
    let rest = parted-length old new bs xs (omega (arith, long)) (λ y there. same y (inr there)) in
    let head = ap length (same x (inl refl)) in
    omega (arith, rest, head, length-append (new x) (flat_map new (marked_of bs xs)), length-append (old x) (flat_map old xs))
parted-length old new (false ∷ bs) (x ∷ xs) long same =
    let rest = parted-length old new bs xs (omega (arith, long)) (λ y there. same y there) in
    omega (arith, rest, length-append (old x) (flat_map old (marked_of (map not bs) xs)), length-append (old x) (flat_map old xs))

-- numbers from the next one on are the next ones of the numbers
next_ones : (a n : ℕ) → range_with_len (a + 1) n ≡ map suc (range_with_len a n)
next_ones a zero = refl
next_ones a (suc n) = let same : a + 1 ≡ suc a = omega arith in ap₂ (λ k ks. k ∷ ks) same (next_ones (a + 1) n)

filter-next : (p : ℕ → Bool) (ks : List ℕ) → filter p (map suc ks) ≡ map suc (filter (λ k. p (suc k)) ks)
filter-next p [] = refl
filter-next p (k ∷ ks) = kept-next (p (suc k)) (suc k) (map suc ks) (filter p (map suc ks)) (filter (λ k. p (suc k)) ks) k (filter-next p ks)
  where
    kept-next : (b : Bool) (n : ℕ) (all later : List ℕ) (before : List ℕ) (k : ℕ) → later ≡ map suc before → cond b (suc k ∷ later) later ≡ map suc (cond b (k ∷ before) before)
    kept-next true n all later before k e = ap (λ more. suc k ∷ more) e
    kept-next false n all later before k e = e

-- the places of those after the first one that aren't marked
pub unmarked-next : (b : Bool) (bs : List Bool) → unmarked_places (b ∷ bs) ≡ cond (not b) (0 ∷ map suc (unmarked_places bs)) (map suc (unmarked_places bs))
unmarked-next b bs = ap (λ ks. cond (not b) (0 ∷ ks) ks) (ap (filter (λ k. not (is_marked (b ∷ bs) k))) (next_ones 0 (length bs)) ∙ filter-next (λ k. not (is_marked (b ∷ bs) k)) (range_with_len 0 (length bs)))

-- the elements at these places are those that aren't marked
elements-unmarked : {A : Type 0} (d : A) (marks : List Bool) (xs : List A) → length marks ≡ length xs → map (λ k. slice_index_or xs k d) (unmarked_places marks) ≡ marked_of (map not marks) xs
elements-unmarked d [] xs long = refl
elements-unmarked d (b ∷ bs) [] long = absurd (omega (arith, long))
elements-unmarked d (true ∷ bs) (x ∷ xs) long =
    ap (map (λ k. slice_index_or (x ∷ xs) k d)) (unmarked-next true bs)
    ∙ map-map (λ k. slice_index_or (x ∷ xs) k d) suc (unmarked_places bs)
    ∙ elements-unmarked d bs xs (omega (arith, long))
elements-unmarked d (false ∷ bs) (x ∷ xs) long =
    ap (map (λ k. slice_index_or (x ∷ xs) k d)) (unmarked-next false bs)
    ∙ ap (λ ys. x ∷ ys) (map-map (λ k. slice_index_or (x ∷ xs) k d) suc (unmarked_places bs) ∙ elements-unmarked d bs xs (omega (arith, long)))

-- and so are their texts
texts-unmarked : {A : Type 0} (old : A → List ℕ) (d : A) (marks : List Bool) (xs : List A) → length marks ≡ length xs → flat_map (λ k. old (slice_index_or xs k d)) (unmarked_places marks) ≡ flat_map old (marked_of (map not marks) xs)
texts-unmarked old d marks xs long = sym (flat_map-map (λ k. slice_index_or xs k d) old (unmarked_places marks)) ∙ ap (flat_map old) (elements-unmarked d marks xs long)

-- ---- tests of elements

-- where none of the others passes a test, as many pass it as among all
any-parted : {A : Type 0} (test : A → Bool) (marks : List Bool) (xs : List A) → length marks ≡ length xs → list_any test (marked_of (map not marks) xs) ≡ false → list_any test (marked_of marks xs) ≡ list_any test xs
any-parted test [] [] long none = refl
any-parted test [] (x ∷ xs) long none = absurd (omega (arith, long))
any-parted test (b ∷ bs) [] long none = absurd (omega (arith, long))
any-parted test (true ∷ bs) (x ∷ xs) long none = ap (λ b. test x || b) (any-parted test bs xs (omega (arith, long)) none)
any-parted test (false ∷ bs) (x ∷ xs) long none = by (test x) (list_any test (marked_of (map not bs) xs)) none (any-parted test bs xs (omega (arith, long)))
  where
    by : (b others : Bool) → (b || others) ≡ false → (others ≡ false → list_any test (marked_of bs xs) ≡ list_any test xs) → list_any test (marked_of bs xs) ≡ (b || list_any test xs)
    by true others h later = absurd cc
    by false others h later = later h

-- ---- places

-- a place without an element has a new place without one
rank-past : {A : Type 0} (marks : List Bool) (xs : List A) (k : ℕ) → length marks ≡ length xs → length xs ≤ k → length (marked_of marks xs) ≤ rank marks k
rank-past [] xs k long past = omega arith
rank-past (b ∷ bs) [] k long past = omega arith
rank-past (b ∷ bs) (x ∷ xs) zero long past = absurd (omega (arith, past))
rank-past (true ∷ bs) (x ∷ xs) (suc k) long past = let rest = rank-past bs xs k (omega (arith, long)) (omega (arith, past)) in omega (arith, rest)
rank-past (false ∷ bs) (x ∷ xs) (suc k) long past = rank-past bs xs k (omega (arith, long)) (omega (arith, past))

-- ---- the graph of the marked vertices, where the marks hold what is reached

module _ (g : EventGraph) (marks : List Bool) (hold : HoldReached g marks) (long : length marks ≡ length g.vertices) where
  abbrev h : EventGraph
  h = only_marked g marks

  abbrev f : ℕ → ℕ
  f = rank marks

  abbrev kept : List EventVertex
  kept = marked_of marks g.vertices

  -- of vertices at places, the name
  abbrev name_in : List EventVertex → ℕ → List ℕ
  name_in vs k = option_map_or (λ (v : EventVertex). v.name) (slice_get vs k) []

  name_marked : (k : ℕ) → Marked marks k → vertex_name h (f k) ≡ vertex_name g k
  name_marked k marked =
      ap (λ (vs : List EventVertex). name_in vs (f k)) (sym (marked_of-map (vertex_renumbered f) marks g.vertices))
      ∙ ap (λ (o : Option EventVertex). option_map_or (λ (v : EventVertex). v.name) o []) (get-marked marks (map (vertex_renumbered f) g.vertices) k marked)
      ∙ shown-map (λ (v : EventVertex). v.name) (vertex_renumbered f) [] (λ v. refl) g.vertices k

  name_past : (k : ℕ) → length g.vertices ≤ k → vertex_name h (f k) ≡ vertex_name g k
  name_past k past =
      shown-map (λ (v : EventVertex). v.name) (vertex_renumbered f) [] (λ v. refl) kept (f k)
      ∙ ap (λ (o : Option EventVertex). option_map_or (λ (v : EventVertex). v.name) o []) (slice_get_past kept (f k) (rank-past marks g.vertices k long past))
      ∙ sym (ap (λ (o : Option EventVertex). option_map_or (λ (v : EventVertex). v.name) o []) (slice_get_past g.vertices k past))

  name_same : (k : ℕ) → (k < length g.vertices → Marked marks k) → vertex_name h (f k) ≡ vertex_name g k
  name_same k marked = go (nat_lt k (length g.vertices)) refl
    where
      go : (b : Bool) → nat_lt k (length g.vertices) ≡ b → vertex_name h (f k) ≡ vertex_name g k
      go true e = name_marked k (marked (let below : k < length g.vertices = grind (arith, nat_tests) in below))
      go false e = name_past k (let past : length g.vertices ≤ k = grind (arith, nat_tests) in past)

  edge_same : (v : EventVertex) → Among v kept → (e : EventEdge) → Among e v.edges → edge_line h (edge_renumbered f e) ≡ edge_line g e
  edge_same v there e among =
      let (k, marked, same) = marked-among marks g.vertices v no_vertex there in
      let among_there : Among e (vertex_at g k).edges = subst (λ (v : EventVertex). Among e v.edges) (sym same) among in
      ap (λ (name : List ℕ). edge_word e.kind ++ name ++ in_parentheses (expression_texts g e.values) ++ timing_text g e.kind ++ condition_text g e.condition ++ codes ";\n") (name_same e.target (hold.leads k marked e among_there))

  pub edges_same : (v : EventVertex) → Among v kept → flat_map (edge_line h) (map (edge_renumbered f) v.edges) ≡ flat_map (edge_line g) v.edges
  edges_same v there = flat_map-map (edge_renumbered f) (edge_line h) v.edges ∙ flat_map-alike (λ e. edge_line h (edge_renumbered f e)) (edge_line g) v.edges (edge_same v there)

  lines_same : (v : EventVertex) → Among v kept → vertex_lines h (vertex_renumbered f v) ≡ vertex_lines g v
  lines_same v there =
      ap (λ (lines : List ℕ). codes "vertex " ++ v.name ++ in_parentheses (map (variable_name g) v.parameters) ++ codes " {\n" ++ flat_map (change_line g) v.changes ++ lines ++ codes "}\n")
      (edges_same v there)

  watched_same : (w : Watched) → Among w g.watch → watched_name h (watched_renumbered f w) ≡ watched_name g w
  watched_same (WatchedVariable v) there = refl
  watched_same (WatchedVertex v) there = name_same v (λ below. hold.begins v (watched-begins g v there) below)

  watch_same : watch_line h ≡ watch_line g
  watch_same = ap watch_names_line (map-map (watched_name h) (watched_renumbered f) g.watch ∙ map-alike (λ w. watched_name h (watched_renumbered f w)) (watched_name g) g.watch watched_same)

  vertices_parted : length (flat_map (vertex_lines h) h.vertices) + length (flat_map (λ k. vertex_lines g (vertex_at g k)) (unmarked_places marks)) ≡ length (flat_map (vertex_lines g) g.vertices)
  vertices_parted =
      let moved = ap length (flat_map-map (vertex_renumbered f) (vertex_lines h) kept) in
      let gone = ap length (texts-unmarked (vertex_lines g) no_vertex marks g.vertices long) in
      let parted = parted-length (vertex_lines g) (λ v. vertex_lines h (vertex_renumbered f v)) marks g.vertices long lines_same in
      omega (arith, moved, gone, parted)

  -- the lines before the vertices
  abbrev front : Bool → List ℕ → List ℕ
  front needed watch = version_line needed ++ codes "model " ++ g.name ++ codes ";\n" ++ flat_map variable_line g.variables ++ flat_map table_line g.tables ++ watch

  abbrev NoneLater : Type 0
  NoneLater = list_any (λ k. has_later_parts (vertex_at g k)) (unmarked_places marks) ≡ false

  needed_same : NoneLater → needs_version_two h ≡ needs_version_two g
  needed_same none =
      let at = λ (k : ℕ). slice_index_or g.vertices k no_vertex in
      let gone = ap (list_any has_later_parts) (sym (elements-unmarked no_vertex marks g.vertices long)) ∙ list_any-map has_later_parts at (λ k. has_later_parts (at k)) (λ k. refl) (unmarked_places marks) ∙ none in
      ap (λ later. list_any is_large_array g.variables || later) (list_any-map has_later_parts (vertex_renumbered f) has_later_parts (has_later_parts-renumbered f) kept ∙ any-parted has_later_parts marks g.vertices long gone)

  front_length : (b c : Bool) (watch : List ℕ) → length (front b watch) + length (version_line c) ≡ length (front c watch) + length (version_line b)
  front_length true true watch = refl
  front_length true false watch = omega arith
  front_length false true watch = omega arith
  front_length false false watch = refl

  text_parted : length (canonical h) + length (version_line (needs_version_two g)) + length (flat_map (λ k. vertex_lines g (vertex_at g k)) (unmarked_places marks)) ≡ length (canonical g) + length (version_line (needs_version_two h))
  text_parted =
      let lines_h = flat_map (vertex_lines h) h.vertices in
      let lines_g = flat_map (vertex_lines g) g.vertices in
      let front_h = front (needs_version_two h) (watch_line h) in
      let front_g = front (needs_version_two g) (watch_line g) in
      let version = front_length (needs_version_two h) (needs_version_two g) (watch_line h) in
      let watch = ap (λ w. length (front (needs_version_two g) w)) watch_same in
      omega (arith, version, watch, vertices_parted, length-append (front_h ++ lines_h) (codes "end\n"), length-append front_h lines_h, length-append (front_g ++ lines_g) (codes "end\n"), length-append front_g lines_g)

-- a graph has the text of another one without the lines of these vertices
abbrev TakesLines : EventGraph → EventGraph → List ℕ → Type 0
TakesLines g h vertices = length (canonical h) + length (version_line (needs_version_two g)) + length (flat_map (λ k. vertex_lines g (vertex_at g k)) vertices) ≡ length (canonical g) + length (version_line (needs_version_two h))

-- where drop's conditions hold, the lines of the vertices go, and nothing else
pub lines-go : (g : EventGraph) (vertices : List ℕ) → first_failed (drop_conditions g vertices) ≡ None
    → length (canonical (dropped g vertices)) + length (version_line (needs_version_two g)) + length (flat_map (λ k. vertex_lines g (vertex_at g k)) vertices) ≡ length (canonical g) + length (version_line (needs_version_two (dropped g vertices)))
lines-go g vertices holds =
    subst (λ (vs : List ℕ). TakesLines g (dropped g vs) vs) (sym (lists_unreached g vertices holds))
    (subst (λ (h : EventGraph). TakesLines g h (unreached g)) (sym (without_unreached g)) (text_parted g (reached_marks g) (reached_marks-hold g) (reached_marks-long g)))

pub version-stays : (g : EventGraph) (vertices : List ℕ) → first_failed (drop_conditions g vertices) ≡ None → list_any (λ k. has_later_parts (vertex_at g k)) vertices ≡ false → needs_version_two (dropped g vertices) ≡ needs_version_two g
version-stays g vertices holds none =
    let is = lists_unreached g vertices holds in
    ap (λ vs. needs_version_two (dropped g vs)) is
    ∙ ap needs_version_two (without_unreached g)
    ∙ needed_same g (reached_marks g) (reached_marks-hold g) (reached_marks-long g) (ap (list_any (λ k. has_later_parts (vertex_at g k))) (sym is) ∙ none)
