-- The graph of the marked variables keeps the static rules, can be written, and has no longer text, where the marks hold what
-- is needed.
use Rattle.std.proofs.Common.{◌≡◌, le_trans, ℕ, ◌+◌, ◌<◌, ◌≤◌, ◌==◌, nat_eq, Bool, true, false, cond, List, [], ◌∷◌, ◌++◌, map, length, Contains, refl, sym, ap, subst, arith, length-append}
use Rattle.std.specs.Prelude.{codes}
use Rattle.std.specs.List.{AllByRecursion, flat_map, IsDistinct, sum_by}
use Rattle.std.proofs.lemmas.Bool.Decides.{nat_tests}
use Rattle.std.proofs.lemmas.List.{length-map}
use Rattle.sig_base.specs.declared.limits.TheConstants.{TEXT_MAX, CELLS_MAX, EDGES_MAX, VERTICES_MAX}
use Rattle.model_core.specs.EventGraph.{EventGraph, EventVertex, EventEdge, StateChange, Variable, WeightTable, Watched, WatchedVariable, WatchedVertex}
use Rattle.model_core.specs.Text.Lexing.{same_bytes}
use Rattle.model_core.specs.Text.Canonical.{variable_name, change_line, edge_line, vertex_lines, variable_line, table_line, watched_name, watch_names_line, watch_line, canonical}
use Rattle.model_core.specs.Text.Spellable.{extent, SpellableChange, SpellableEdge, SpellableVertex, SpellableWatched, IsSpellable}
use Rattle.model_core.specs.Static.OwnRules.{IsParameter, KeepsVariable, KeepsChange, KeepsEdge, KeepsVertex, IsWatchable, watch_number, parameters_of, KeepsParts, KeepsStaticRules}
use Rattle.model_core.specs.Rules.MarkedPlaces.{rank, is_marked}
use Rattle.model_core.specs.Rules.Slice.{sliced_parameters, sliced_change, sliced_edge, sliced_vertex, sliced_watched, of_marked_variables}
use Rattle.model_core.proofs.Among.{Among, contained-among, of-among, each-among, all-contained}
use Rattle.mark_laws.proofs.Marks.{Marked, rank-apart}
use Rattle.round_trip.proofs.MadeAgain.{ChangeFrom, EdgeFrom, VertexFrom, made-spellable}
use Rattle.model_core.proofs.EachOne.{every-joined, every-map, every-images}
use Rattle.var_slicing.proofs.HeldByAll.{held-both}
use Rattle.var_slicing.proofs.SlicedRuns.{WatchedMarked}
use Rattle.var_slicing.proofs.NeedsClosed.{ChangeNeeds, EdgeNeeds, NeedsHold}
use Rattle.model_core.proofs.SomeOfAList.{some-marked_of, some-map, some-front, some-hold, some-distinct, some-few, some-lines, some-in_parentheses, some-items_where_marked}
use Rattle.var_slicing.proofs.KeptBeside.{parameters-kept, parameters-marked}
use Rattle.model_core.proofs.NoLongerTexts.{NoLonger, no_longer-after, no_longer-before, no_longer-both, no_longer-same, no_longer-lines, no_longer-mapped}
use Rattle.model_core.proofs.NotEmpty.{has_one-map}
use Rattle.model_core.proofs.WatchedApart.{variable_apart, vertex_from_variable}
use Rattle.var_slicing.proofs.PartsLeft.{mapped-alike, rank-below_left, name-left, variable-of_left, parameter-names, parameters-below_left}
use Rattle.round_trip.proofs.VersionsKept.{heading-shorter}
use Rattle.var_slicing.proofs.VersionLeft.{parameters-few, needed-left, some-cells}
use Rattle.var_slicing.proofs.LinesLeft.{vertex_name-left, change-keeps, change-few, change-made, change-line, edge-keeps, edge-made, edge-line}

-- ---- lists

held-flat : {A B : Type 0} (P : A → Type 0) (Q : B → Type 0) (left : A → List B) → ((x : A) → P x → AllByRecursion Q (left x)) → (xs : List A) → AllByRecursion P xs → AllByRecursion Q (flat_map left xs)
held-flat P Q left into [] all = tt
held-flat P Q left into (x ∷ xs) all = every-joined Q (left x) (flat_map left xs) (into x all.0) (held-flat P Q left into xs all.1)

flat-few : {A B : Type 0} (left : A → List B) → ((x : A) → length (left x) ≤ 1) → (xs : List A) → length (flat_map left xs) ≤ length xs
flat-few left one [] = omega arith
flat-few left one (x ∷ xs) = omega (arith, length-append (left x) (flat_map left xs), one x, flat-few left one xs)

names-mapped : (g : EventGraph) (marks : List Bool) (vs : List EventVertex) → map (λ (v : EventVertex). v.name) (map (sliced_vertex g marks) vs) ≡ map (λ (v : EventVertex). v.name) vs
names-mapped g marks [] = refl
names-mapped g marks (v ∷ vs) = ap (λ ns. v.name ∷ ns) (names-mapped g marks vs)

-- ---- numbers that stay apart

apart_after : (a b i j : ℕ) → (i == j) ≡ (a == b) → nat_eq a b ≡ false → nat_eq i j ≡ false
apart_after a b i j same e = grind (arith, nat_tests)

abbrev ApartFrom : ℕ → List ℕ → Type 0
ApartFrom a vs = AllByRecursion (λ y. nat_eq a y ≡ false) vs

parameter-apart : (marks : List Bool) (a : ℕ) → Marked marks a → (vs : List ℕ) → ApartFrom a vs → ApartFrom (rank marks a) (sliced_parameters marks vs)
parameter-apart marks a marked [] apart = tt
parameter-apart marks a marked (v ∷ vs) apart = tested (is_marked marks v) refl (parameter-apart marks a marked vs apart.1) where
  tested : (b : Bool) → is_marked marks v ≡ b → ApartFrom (rank marks a) (sliced_parameters marks vs) → ApartFrom (rank marks a) (cond b (rank marks v ∷ sliced_parameters marks vs) (sliced_parameters marks vs))
  tested true here rest = (apart_after a v (rank marks a) (rank marks v) (rank-apart marks a v marked here) apart.0, rest)
  tested false here rest = rest

parameters-apart : (marks : List Bool) (vs : List ℕ) → IsDistinct nat_eq vs → IsDistinct nat_eq (sliced_parameters marks vs)
unfolding IsDistinct
parameters-apart marks [] distinct = tt
parameters-apart marks (v ∷ vs) distinct = tested (is_marked marks v) refl (parameters-apart marks vs distinct.1) where
  tested : (b : Bool) → is_marked marks v ≡ b → IsDistinct nat_eq (sliced_parameters marks vs) → IsDistinct nat_eq (cond b (rank marks v ∷ sliced_parameters marks vs) (sliced_parameters marks vs))
  tested true here rest = (parameter-apart marks v here vs distinct.0, rest)
  tested false here rest = rest

vertices_apart : (n m a b : ℕ) → nat_eq (n + a) (n + b) ≡ false → nat_eq (m + a) (m + b) ≡ false
vertices_apart n m a b e = grind (arith, nat_tests)

-- an item of a watch list whose variable is marked and has a place below so many
abbrev ItemLeft : ℕ → List Bool → Watched → Type 0
ItemLeft m marks (WatchedVariable v) = Marked marks v × (rank marks v < m)
ItemLeft m marks (WatchedVertex v) = Unit {0}

item-apart : (n m : ℕ) (marks : List Bool) (a b : Watched) → ItemLeft m marks a → ItemLeft m marks b → nat_eq (watch_number n a) (watch_number n b) ≡ false → nat_eq (watch_number m (sliced_watched marks a)) (watch_number m (sliced_watched marks b)) ≡ false
item-apart n m marks (WatchedVariable v) (WatchedVariable w) la lb e = apart_after v w (rank marks v) (rank marks w) (rank-apart marks v w la.0 lb.0) e
item-apart n m marks (WatchedVariable v) (WatchedVertex w) la lb e = variable_apart m (rank marks v) w la.1
item-apart n m marks (WatchedVertex v) (WatchedVariable w) la lb e = vertex_from_variable m (rank marks w) v lb.1
item-apart n m marks (WatchedVertex v) (WatchedVertex w) la lb e = vertices_apart n m v w e

item-apart_from : (n m : ℕ) (marks : List Bool) (a : Watched) (watch : List Watched) → ItemLeft m marks a → AllByRecursion (ItemLeft m marks) watch → ApartFrom (watch_number n a) (map (watch_number n) watch) → ApartFrom (watch_number m (sliced_watched marks a)) (map (watch_number m) (map (sliced_watched marks) watch))
item-apart_from n m marks a [] la all e = tt
item-apart_from n m marks a (b ∷ watch) la all e = (item-apart n m marks a b la all.0 e.0, item-apart_from n m marks a watch la all.1 e.1)

watched-apart : (n m : ℕ) (marks : List Bool) (watch : List Watched) → AllByRecursion (ItemLeft m marks) watch → IsDistinct nat_eq (map (watch_number n) watch) → IsDistinct nat_eq (map (watch_number m) (map (sliced_watched marks) watch))
unfolding IsDistinct
watched-apart n m marks [] all distinct = tt
watched-apart n m marks (a ∷ watch) all distinct = (item-apart_from n m marks a watch all.0 all.1 distinct.0, watched-apart n m marks watch all.1 distinct.1)

-- ---- the graph of the marked variables

module _ (g : EventGraph) (keeps : KeepsParts g) (marks live : List Bool) (needs : NeedsHold g marks live) where
  abbrev h : EventGraph
  h = of_marked_variables g marks

  abbrev tables : ℕ
  tables = length g.tables

  abbrev KeepsOld : EventVertex → Type 0
  KeepsOld = KeepsVertex g.variables tables (parameters_of g)

  abbrev KeepsNew : EventVertex → Type 0
  KeepsNew = KeepsVertex h.variables tables (parameters_of h)

  abbrev ChangeKeeps : StateChange → Type 0
  ChangeKeeps = KeepsChange g.variables tables (parameters_of g)

  abbrev EdgeKeeps : EventEdge → Type 0
  EdgeKeeps = KeepsEdge g.variables tables (parameters_of g)

  -- what is known of a vertex
  record VertexFacts (v : EventVertex) : Type 0 where
    keeps_rules : KeepsOld v
    changes_need : AllByRecursion (ChangeNeeds g marks live) v.changes
    edges_need : AllByRecursion (EdgeNeeds g marks) v.edges

  vertex_facts : (v : EventVertex) → Among v g.vertices → VertexFacts v
  vertex_facts v there = record {
    keeps_rules = of-among KeepsOld g.vertices v keeps.vertices there;
    changes_need = of-among (λ (v : EventVertex). AllByRecursion (ChangeNeeds g marks live) v.changes) g.vertices v needs.changes there;
    edges_need = of-among (λ (v : EventVertex). AllByRecursion (EdgeNeeds g marks) v.edges) g.vertices v needs.edges there;
  }

  all_vertex_facts : AllByRecursion VertexFacts g.vertices
  all_vertex_facts = each-among VertexFacts g.vertices vertex_facts

  facts_of_changes : (v : EventVertex) → VertexFacts v → AllByRecursion (λ c. ChangeKeeps c × ChangeNeeds g marks live c) v.changes
  facts_of_changes v k = held-both ChangeKeeps (ChangeNeeds g marks live) v.changes k.keeps_rules.changes k.changes_need

  facts_of_edges : (v : EventVertex) → VertexFacts v → AllByRecursion (λ e. EdgeKeeps e × EdgeNeeds g marks e) v.edges
  facts_of_edges v k = held-both EdgeKeeps (EdgeNeeds g marks) v.edges k.keeps_rules.edges k.edges_need

  -- ---- its text is no longer

  vertex-lines : (v : EventVertex) → VertexFacts v → NoLonger (vertex_lines h (sliced_vertex g marks v)) (vertex_lines g v)
  vertex-lines v k =
      no_longer-before (codes "}\n")
      (no_longer-both
      (no_longer-both
      (no_longer-before (codes " {\n") (no_longer-after (codes "vertex " ++ v.name) (record { at_most = some-in_parentheses (map (variable_name h) (sliced_parameters marks v.parameters)) (map (variable_name g) v.parameters) (parameter-names g marks v.parameters) })))
      (no_longer-lines (λ c. ChangeKeeps c × ChangeNeeds g marks live c) (change_line g) (change_line h) (sliced_change marks) (change-line g marks live) v.changes (facts_of_changes v k)))
      (no_longer-mapped (λ e. EdgeKeeps e × EdgeNeeds g marks e) (edge_line g) (edge_line h) (sliced_edge g marks) (edge-line g marks live) v.edges (facts_of_edges v k)))

  watched-name : (w : Watched) → WatchedMarked marks w → watched_name h (sliced_watched marks w) ≡ watched_name g w
  watched-name (WatchedVariable v) marked = name-left g marks v marked
  watched-name (WatchedVertex v) marked = vertex_name-left g marks live v

  watch-line : watch_line h ≡ watch_line g
  watch-line = ap watch_names_line (mapped-alike (WatchedMarked marks) (sliced_watched marks) (watched_name h) (watched_name g) watched-name g.watch needs.watched)

  text-shorter : NoLonger (canonical h) (canonical g)
  text-shorter =
      no_longer-before (codes "end\n")
      (no_longer-both
      (no_longer-both
      (no_longer-before (flat_map table_line g.tables) (no_longer-both (heading-shorter h g (needed-left g marks) g.name) (record { at_most = some-lines variable_line (some-marked_of marks g.variables) })))
      (no_longer-same (watch_line h) (watch_line g) watch-line))
      (no_longer-mapped VertexFacts (vertex_lines g) (vertex_lines h) (sliced_vertex g marks) vertex-lines g.vertices all_vertex_facts))

  -- ---- it keeps the rules

  abbrev ParameterOf : ℕ → Type 0
  ParameterOf = IsParameter g.variables tables (parameters_of g)

  abbrev ParameterLeft : ℕ → Type 0
  ParameterLeft = IsParameter h.variables tables (parameters_of h)

  parameters-keep : (vs : List ℕ) → AllByRecursion ParameterOf vs → AllByRecursion ParameterLeft (sliced_parameters marks vs)
  parameters-keep vs all = subst (AllByRecursion ParameterLeft) (sym (parameters-kept marks vs))
      (every-images (λ v. Marked marks v × ParameterOf v) ParameterLeft (rank marks) (λ v (marked, (kind, is)). (kind, variable-of_left g marks v false kind marked is)) _
      (held-both (Marked marks) ParameterOf _ (parameters-marked marks vs) (some-hold ParameterOf (some-items_where_marked marks vs vs) all)))

  vertex-keeps : (v : EventVertex) → VertexFacts v → KeepsNew (sliced_vertex g marks v)
  vertex-keeps v facts =
      let k = facts.keeps_rules in
      record {
        name = k.name;
        parameters = parameters-keep v.parameters k.parameters;
        each_once = parameters-apart marks v.parameters k.each_once;
        few_parameters = le_trans (parameters-few marks v.parameters) k.few_parameters;
        changes = held-flat (λ c. ChangeKeeps c × ChangeNeeds g marks live c) (KeepsChange h.variables tables (parameters_of h)) (sliced_change marks) (λ c both. change-keeps g marks live c both.0 both.1) v.changes (facts_of_changes v facts);
        few_changes = le_trans (flat-few (sliced_change marks) (change-few g marks live) v.changes) k.few_changes;
        edges = every-images (λ e. EdgeKeeps e × EdgeNeeds g marks e) (KeepsEdge h.variables tables (parameters_of h)) (sliced_edge g marks) (λ e both. edge-keeps g marks live e both.0 both.1) v.edges (facts_of_edges v facts);
        few_edges = subst (λ n. n ≤ EDGES_MAX) (sym (length-map v.edges (sliced_edge g marks))) k.few_edges;
      }

  -- ---- what is watched

  abbrev Watchable : Watched → Type 0
  Watchable = IsWatchable (length g.variables) (length g.vertices)

  item-left : (w : Watched) → WatchedMarked marks w × Watchable w → ItemLeft (length h.variables) marks w
  item-left (WatchedVariable v) (marked, below) = (marked, rank-below_left g marks v marked below)
  item-left (WatchedVertex v) both = tt

  same_vertices : length h.vertices ≡ length g.vertices
  same_vertices = length-map g.vertices (sliced_vertex g marks)

  watchable-left : (w : Watched) → WatchedMarked marks w × Watchable w → IsWatchable (length h.variables) (length h.vertices) (sliced_watched marks w)
  watchable-left (WatchedVariable v) (marked, below) = rank-below_left g marks v marked below
  watchable-left (WatchedVertex v) (marked, below) = subst (λ n. v < n) (sym same_vertices) below

  facts_of_watch : AllByRecursion (λ w. WatchedMarked marks w × Watchable w) g.watch
  facts_of_watch = held-both (WatchedMarked marks) Watchable g.watch needs.watched keeps.watch

  names-apart : IsDistinct same_bytes (map (λ (v : Variable). v.name) h.variables ++ map (λ (t : WeightTable). t.name) g.tables ++ map (λ (v : EventVertex). v.name) h.vertices)
  names-apart =
      let vertices = map (λ (v : EventVertex). v.name) g.vertices in
      let names = map (λ (t : WeightTable). t.name) g.tables in
      subst (λ (ns : List (List ℕ)). IsDistinct same_bytes (map (λ (v : Variable). v.name) h.variables ++ names ++ ns)) (sym (names-mapped g marks g.vertices))
      (some-distinct same_bytes (some-front (some-front (some-map (λ (v : Variable). v.name) (some-marked_of marks g.variables)) names) vertices) keeps.declared_once)

  parts-keep : KeepsParts h
  parts-keep = record {
    name = keeps.name;
    declared_once = names-apart;
    variables = some-hold KeepsVariable (some-marked_of marks g.variables) keeps.variables;
    few_variables = le_trans (some-few (some-marked_of marks g.variables)) keeps.few_variables;
    tables = keeps.tables;
    few_tables = keeps.few_tables;
    watch = every-images (λ w. WatchedMarked marks w × Watchable w) (IsWatchable (length h.variables) (length h.vertices)) (sliced_watched marks) watchable-left g.watch facts_of_watch;
    watched_once = watched-apart (length g.variables) (length h.variables) marks g.watch (every-map (λ w. WatchedMarked marks w × Watchable w) (ItemLeft (length h.variables) marks) item-left g.watch facts_of_watch) keeps.watched_once;
    vertices = every-images VertexFacts KeepsNew (sliced_vertex g marks) vertex-keeps g.vertices all_vertex_facts;
    few_vertices = subst (λ n. n ≤ VERTICES_MAX) (sym same_vertices) keeps.few_vertices;
  }

  pub marked_rules : sum_by (λ (v : Variable). v.size) g.variables ≤ CELLS_MAX → length (canonical g) ≤ TEXT_MAX → KeepsStaticRules h
  marked_rules few short = record { parts = parts-keep; few_cells = le_trans (some-cells (some-marked_of marks g.variables)) few; short = le_trans text-shorter.at_most short }

  -- ---- a text can write it

  module _ (s : IsSpellable g) where
    vertex-made : (v : EventVertex) → Among v g.vertices → VertexFrom g (extent h) (sliced_vertex g marks v)
    vertex-made v there =
        let facts = vertex_facts v there in
        let spelled = of-among (SpellableVertex (extent g)) g.vertices v s.vertices there in
        let is_vertex = contained-among g.vertices v there in
        record {
          old = v;
          is_old = is_vertex;
          name = refl;
          parameters = parameters-below_left g marks v.parameters spelled.parameters;
          changes = held-flat (λ c. Among c v.changes) (ChangeFrom g (extent h)) (sliced_change marks) (λ c among.
              change-made g marks live v is_vertex c (contained-among v.changes c among) (of-among (SpellableChange (extent g)) v.changes c spelled.changes among).parts (of-among ChangeKeeps v.changes c facts.keeps_rules.changes among) (of-among (ChangeNeeds g marks live) v.changes c facts.changes_need among)) v.changes (each-among (λ c. Among c v.changes) v.changes (λ c among. among));
          edges = every-images (λ e. Among e v.edges) (EdgeFrom g (extent h)) (sliced_edge g marks) (λ e among.
              edge-made g marks live v is_vertex e (contained-among v.edges e among) (of-among (SpellableEdge (extent g)) v.edges e spelled.edges among) (of-among EdgeKeeps v.edges e facts.keeps_rules.edges among) (of-among (EdgeNeeds g marks) v.edges e facts.edges_need among)) v.edges (each-among (λ e. Among e v.edges) v.edges (λ e among. among));
        }

    watched-written : (w : Watched) → WatchedMarked marks w × Watchable w → SpellableWatched (extent h) (sliced_watched marks w)
    watched-written (WatchedVariable v) (marked, below) = rank-below_left g marks v marked below
    watched-written (WatchedVertex v) (marked, below) = subst (λ n. v < n) (sym same_vertices) below

    pub marked_spellable : IsSpellable h
    marked_spellable = made-spellable g h s (record {
      name = refl;
      variables = some-hold (Contains g.variables) (some-marked_of marks g.variables) (all-contained g.variables);
      tables = all-contained g.tables;
      watch = every-images (λ w. WatchedMarked marks w × Watchable w) (SpellableWatched (extent h)) (sliced_watched marks) watched-written g.watch facts_of_watch;
      has_vertex = has_one-map (sliced_vertex g marks) g.vertices s.has_vertex;
      vertices = every-images (λ v. Among v g.vertices) (VertexFrom g (extent h)) (sliced_vertex g marks) vertex-made g.vertices (each-among (λ v. Among v g.vertices) g.vertices (λ v there. there));
    })
