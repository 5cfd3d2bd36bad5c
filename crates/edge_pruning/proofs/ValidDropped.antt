-- The graph of the marked vertices keeps the static rules, can be written, and has no longer text, where the marks hold what
-- is reached.
use Rattle.std.proofs.Common.{◌≡◌, inl, inr, ℕ, zero, suc, ◌<◌, Bool, true, false, List, [], ◌∷◌, ◌++◌, map, length, slice_get, slice_index_or, Option, refl, sym, ap, ap₂, subst, arith, ◌∙◌, le_trans}
use Rattle.std.specs.Prelude.{codes}
use Rattle.std.specs.List.{AllByRecursion, flat_map}
use Rattle.std.specs.Option.{option_map_or}
use Rattle.std.proofs.lemmas.Simd.{map-map}
use Rattle.model_core.specs.EventGraph.{EventGraph, EventVertex, EventEdge, Watched, WatchedVariable, WatchedVertex}
use Rattle.model_core.specs.Run.Step.{no_vertex, vertex_at}
use Rattle.model_core.specs.Text.Canonical.{vertex_name, vertex_lines, variable_name, change_line, edge_line, edge_word, expression_texts, timing_text, condition_text, in_parentheses, variable_line, table_line, watched_name, watch_names_line, watch_line, canonical}
use Rattle.model_core.specs.Text.Spellable.{IsNonEmpty, Extent, extent, SpellableEdge, SpellableVertex, SpellableWatched, IsSpellable}
use Rattle.model_core.specs.Static.OwnRules.{parameters_of, KeepsStaticRules}
use Rattle.model_core.specs.Rules.MarkedPlaces.{rank, marked_of}
use Rattle.model_core.specs.Rules.Drop.{edge_renumbered, vertex_renumbered, watched_renumbered, only_marked}
use Rattle.mark_laws.proofs.Marks.{Marked, rank-apart, rank-within, get-marked}
use Rattle.round_trip.proofs.FewerVertices.{Stay, kept-spellable, kept-parts}
use Rattle.round_trip.proofs.VersionsKept.{needed-kept, declared-shorter}
use Rattle.model_core.proofs.Among.{Among, of-among, each-among}
use Rattle.model_core.proofs.Images.{shown-map, flat_map-map}
use Rattle.mark_laws.proofs.MarksBelow.{marked-among}
use Rattle.model_core.proofs.SomeOfAList.{some-marked_of}
use Rattle.mark_laws.proofs.MarkedItems.{marked_of-map}
use Rattle.model_core.proofs.NoLongerTexts.{NoLonger, no_longer-before, no_longer-same, no_longer-both}
use Rattle.model_core.proofs.NotEmpty.{has_one-length}
use Rattle.edge_pruning.proofs.ReachedMarks.{watched-begins, HoldReached}
use Rattle.edge_pruning.proofs.DropSame.{NamesVertices}

-- ---- marked elements

lines-marked : {A : Type 0} (old new : A → List ℕ) (marks : List Bool) (xs : List A) → ((x : A) → Among x (marked_of marks xs) → new x ≡ old x) → NoLonger (flat_map new (marked_of marks xs)) (flat_map old xs)
lines-marked old new [] xs same = record { at_most = omega arith }
lines-marked old new (b ∷ bs) [] same = record { at_most = omega arith }
lines-marked old new (true ∷ bs) (x ∷ xs) same = no_longer-both (no_longer-same (new x) (old x) (same x (inl refl))) (lines-marked old new bs xs (λ y there. same y (inr there)))
lines-marked old new (false ∷ bs) (x ∷ xs) same = no_longer-both (let e : NoLonger [] (old x) = record { at_most = omega arith } in e) (lines-marked old new bs xs same)

pub map-alike : {A B : Type 0} (f h : A → B) (xs : List A) → ((x : A) → Among x xs → f x ≡ h x) → map f xs ≡ map h xs
map-alike f h [] same = refl
map-alike f h (x ∷ xs) same = ap₂ (λ y ys. y ∷ ys) (same x (inl refl)) (map-alike f h xs (λ y there. same y (inr there)))

pub flat_map-alike : {A C : Type 0} (f h : A → List C) (xs : List A) → ((x : A) → Among x xs → f x ≡ h x) → flat_map f xs ≡ flat_map h xs
flat_map-alike f h [] same = refl
flat_map-alike f h (x ∷ xs) same = ap₂ (λ y ys. y ++ ys) (same x (inl refl)) (flat_map-alike f h xs (λ y there. same y (inr there)))

some-marked : {A : Type 0} (marks : List Bool) (xs : List A) → Marked marks 0 → 0 < length xs → IsNonEmpty (marked_of marks xs)
some-marked [] xs marked some = cc
some-marked (b ∷ bs) [] marked some = absurd (omega arith)
some-marked (true ∷ bs) (x ∷ xs) marked some = tt
some-marked (false ∷ bs) (x ∷ xs) marked some = cc

-- ---- the graph of the marked vertices

module _ (g : EventGraph) (marks : List Bool) (hold : HoldReached g marks) (names : NamesVertices g) (first : Marked marks 0) where
  abbrev h : EventGraph
  h = only_marked g marks

  abbrev f : ℕ → ℕ
  f = rank marks

  abbrev kept : List EventVertex
  kept = marked_of marks g.vertices

  -- the edges of a marked vertex lead to marked vertices, and those that are watched are marked
  edge_marked : (v : EventVertex) → Among v kept → (e : EventEdge) → Among e v.edges → Marked marks e.target
  edge_marked v there e among =
      let (k, marked, same) = marked-among marks g.vertices v no_vertex there in
      let among_there : Among e (vertex_at g k).edges = subst (λ (v : EventVertex). Among e v.edges) (sym same) among in
      hold.leads k marked e among_there (of-among (λ (e : EventEdge). e.target < length g.vertices) (vertex_at g k).edges e (names.edges k) among_there)

  watched_marked : (v : ℕ) → Among (WatchedVertex v) g.watch → Marked marks v
  watched_marked v there = hold.begins v (watched-begins g v there) (names.watch v there)

  name_same : (k : ℕ) → Marked marks k → vertex_name h (f k) ≡ vertex_name g k
  name_same k marked =
      ap (λ (vs : List EventVertex). option_map_or (λ (v : EventVertex). v.name) (slice_get vs (f k)) []) (sym (marked_of-map (vertex_renumbered f) marks g.vertices))
      ∙ ap (λ (o : Option EventVertex). option_map_or (λ (v : EventVertex). v.name) o []) (get-marked marks (map (vertex_renumbered f) g.vertices) k marked)
      ∙ shown-map (λ (v : EventVertex). v.name) (vertex_renumbered f) [] (λ v. refl) g.vertices k

  -- ---- it can be written

  stay : Stay g kept f (Marked marks) (Marked marks)
  stay = record {
    some = some-marked_of marks g.vertices;
    has_one = some-marked marks g.vertices first names.some;
    edges = edge_marked;
    watched = λ v there. (watched_marked v there, watched_marked v there);
    within = λ v marked below. rank-within marks g.vertices v marked below;
    takes = λ v ps marked is. ap (λ (all : List (List ℕ)). slice_get all (f v)) (sym (marked_of-map (λ (v : EventVertex). v.parameters) marks g.vertices)) ∙ (get-marked marks (parameters_of g) v marked ∙ is);
    apart = rank-apart marks;
  }

  pub dropped_spellable : IsSpellable g → IsSpellable h
  dropped_spellable s = kept-spellable g kept f (Marked marks) (Marked marks) stay s

  -- ---- its text is no longer

  edge_same : (e : EventEdge) → Marked marks e.target → edge_line h (edge_renumbered f e) ≡ edge_line g e
  edge_same e marked = ap (λ (name : List ℕ). edge_word e.kind ++ name ++ in_parentheses (expression_texts g e.values) ++ timing_text g e.kind ++ condition_text g e.condition ++ codes ";\n") (name_same e.target marked)

  lines_same : (v : EventVertex) → Among v kept → vertex_lines h (vertex_renumbered f v) ≡ vertex_lines g v
  lines_same v there =
      ap (λ (lines : List ℕ). codes "vertex " ++ v.name ++ in_parentheses (map (variable_name g) v.parameters) ++ codes " {\n" ++ flat_map (change_line g) v.changes ++ lines ++ codes "}\n")
      (flat_map-map (edge_renumbered f) (edge_line h) v.edges ∙ flat_map-alike (λ e. edge_line h (edge_renumbered f e)) (edge_line g) v.edges (λ e among. edge_same e (edge_marked v there e among)))

  watched_same : (w : Watched) → Among w g.watch → watched_name h (watched_renumbered f w) ≡ watched_name g w
  watched_same (WatchedVariable v) there = refl
  watched_same (WatchedVertex v) there = name_same v (watched_marked v there)

  watch_same : watch_line h ≡ watch_line g
  watch_same = ap watch_names_line (map-map (watched_name h) (watched_renumbered f) g.watch ∙ map-alike (λ w. watched_name h (watched_renumbered f w)) (watched_name g) g.watch watched_same)

  vertices_shorter : NoLonger (flat_map (vertex_lines h) h.vertices) (flat_map (vertex_lines g) g.vertices)
  vertices_shorter =
      subst (λ (lines : List ℕ). NoLonger lines (flat_map (vertex_lines g) g.vertices)) (sym (flat_map-map (vertex_renumbered f) (vertex_lines h) kept))
      (lines-marked (vertex_lines g) (λ v. vertex_lines h (vertex_renumbered f v)) marks g.vertices lines_same)

  canonical_shorter : NoLonger (canonical h) (canonical g)
  canonical_shorter =
      no_longer-before (codes "end\n")
      (no_longer-both (no_longer-both (declared-shorter h g (needed-kept g kept f h.watch (some-marked_of marks g.vertices)) g.name (flat_map variable_line g.variables) (flat_map table_line g.tables)) (no_longer-same (watch_line h) (watch_line g) watch_same))
      vertices_shorter)

  -- ---- it keeps the rules

  pub dropped_rules : KeepsStaticRules g → KeepsStaticRules h
  dropped_rules k = record { parts = kept-parts g kept f (Marked marks) (Marked marks) stay k.parts; few_cells = k.few_cells; short = le_trans canonical_shorter.at_most k.short }

-- ---- a valid model names vertices

edges_within : (vs : List EventVertex) (n : ℕ) (x : Extent) → x.vertices ≡ n → AllByRecursion (SpellableVertex x) vs → (k : ℕ) → AllByRecursion (λ (e : EventEdge). e.target < n) (slice_index_or vs k no_vertex).edges
edges_within [] n x same all k = tt
edges_within (v ∷ vs) n x same all zero = each-among (λ (e : EventEdge). e.target < n) v.edges (λ e among. subst (λ m. e.target < m) same (of-among (SpellableEdge x) v.edges e all.0.edges among).target)
edges_within (v ∷ vs) n x same all (suc k) = edges_within vs n x same all.1 k

pub names_vertices : (g : EventGraph) → IsSpellable g → NamesVertices g
names_vertices g s = record {
  some = has_one-length g.vertices s.has_vertex;
  edges = edges_within g.vertices (length g.vertices) (extent g) refl s.vertices;
  watch = λ k among. of-among (SpellableWatched (extent g)) g.watch (WatchedVertex k) s.watch among;
}
