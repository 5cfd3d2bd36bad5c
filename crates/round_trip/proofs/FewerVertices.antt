-- The model of some of a graph's vertices, whose edges and watch list name vertices by new places: it can be written, and its
-- parts keep the static rules.
use Rattle.std.proofs.Common.{◌≡◌, inl, inr, ℕ, ◌<◌, ◌≤◌, ◌==◌, List, ◌++◌, map, length, slice_get, Some, refl, sym, ap, subst, ◌∙◌, le_trans}
use Rattle.std.specs.List.{AllByRecursion, IsDistinct}
use Rattle.std.proofs.lemmas.List.{length-map}
use Rattle.std.proofs.lemmas.Simd.{map-map}
use Rattle.sig_base.specs.declared.limits.TheConstants.{EDGES_MAX}
use Rattle.model_core.specs.EventGraph.{EventGraph, EventVertex, EventEdge, Variable, WeightTable, Watched, WatchedVariable, WatchedVertex}
use Rattle.model_core.specs.Text.Lexing.{same_bytes}
use Rattle.model_core.specs.Text.Spellable.{IsNonEmpty, extent, SpellableEdge, SpellableVertex, SpellableWatched, IsSpellable}
use Rattle.model_core.specs.Static.OwnRules.{KeepsChange, KeepsEdge, KeepsVertex, IsWatchable, parameters_of, KeepsParts}
use Rattle.model_core.specs.Rules.Drop.{edge_renumbered, vertex_renumbered, watched_renumbered}
use Rattle.model_core.proofs.Among.{Among, contained-among, of-among, each-among, all-map, all-contained}
use Rattle.model_core.proofs.WatchedApart.{WatchedItem, watch_apart}
use Rattle.model_core.proofs.SomeOfAList.{SomeOf, nothing, with_it, without, some-map, some-behind, some-distinct, some-few}
use Rattle.model_core.proofs.OtherTakes.{change_still, carries_still, timing_still}
use Rattle.model_core.proofs.NotEmpty.{has_one-map}
use Rattle.round_trip.proofs.MadeAgain.{VertexFrom, EdgeFrom, ChangeFrom, made-spellable, same_change, same_edge}

among-some : {A : Type 0} {xs ys : List A} (x : A) → SomeOf xs ys → Among x xs → Among x ys
among-some x nothing h = h
among-some x (with_it y some) (inl e) = inl e
among-some x (with_it y some) (inr h) = inr (among-some x some h)
among-some x (without y some) h = inr (among-some x some h)

-- some of a graph's vertices stay, and f gives the new place of each that edges or the watch list name. Named holds of those,
-- and Listed of those that are watched
pub record Stay (g : EventGraph) (kept : List EventVertex) (f : ℕ → ℕ) (Named Listed : ℕ → Type 0) : Type 0 where
  pub some : SomeOf kept g.vertices
  pub has_one : IsNonEmpty kept
  pub edges : (v : EventVertex) → Among v kept → (e : EventEdge) → Among e v.edges → Named e.target
  pub watched : (v : ℕ) → Among (WatchedVertex v) g.watch → Named v × Listed v
  pub within : (v : ℕ) → Named v → v < length g.vertices → f v < length kept
  pub takes : (v : ℕ) (ps : List ℕ) → Named v → slice_get (parameters_of g) v ≡ Some ps → slice_get (map (λ (v : EventVertex). v.parameters) kept) (f v) ≡ Some ps
  pub apart : (v w : ℕ) → Listed v → Listed w → (f v == f w) ≡ (v == w)

module _ (g : EventGraph) (kept : List EventVertex) (f : ℕ → ℕ) (Named Listed : ℕ → Type 0) (stay : Stay g kept f Named Listed) where
  abbrev pub of_kept : EventGraph
  of_kept = record g { watch = map (watched_renumbered f) g.watch; vertices = map (vertex_renumbered f) kept }

  was-there : (v : EventVertex) → Among v kept → Among v g.vertices
  was-there v there = among-some v stay.some there

  within : (v : ℕ) → Named v → v < length g.vertices → f v < length of_kept.vertices
  within v named below = subst (λ n. f v < n) (sym (length-map kept (vertex_renumbered f))) (stay.within v named below)

  -- ---- it can be written

  watched_spellable : IsSpellable g → AllByRecursion (SpellableWatched (extent of_kept)) of_kept.watch
  watched_spellable s = all-map (SpellableWatched (extent of_kept)) (watched_renumbered f) g.watch one where
    one : (w : Watched) → Among w g.watch → SpellableWatched (extent of_kept) (watched_renumbered f w)
    one (WatchedVariable v) there = of-among (SpellableWatched (extent g)) g.watch (WatchedVariable v) s.watch there
    one (WatchedVertex v) there = within v (stay.watched v there).0 (of-among (SpellableWatched (extent g)) g.watch (WatchedVertex v) s.watch there)

  vertex_made : IsSpellable g → (v : EventVertex) → Among v kept → VertexFrom g (extent of_kept) (vertex_renumbered f v)
  vertex_made s v there =
      let is_old = contained-among g.vertices v (was-there v there) in
      let old = of-among (SpellableVertex (extent g)) g.vertices v s.vertices (was-there v there) in
      record {
        old = v;
        is_old = is_old;
        name = refl;
        parameters = old.parameters;
        changes = each-among (ChangeFrom g (extent of_kept)) v.changes (λ c among. same_change g s v is_old (extent of_kept) refl refl c (contained-among v.changes c among));
        edges = all-map (EdgeFrom g (extent of_kept)) (edge_renumbered f) v.edges (λ e among.
            same_edge g s v is_old (extent of_kept) refl refl e (contained-among v.edges e among) (f e.target) (within e.target (stay.edges v there e among) (of-among (SpellableEdge (extent g)) v.edges e old.edges among).target));
      }

  pub kept-spellable : IsSpellable g → IsSpellable of_kept
  kept-spellable s = made-spellable g of_kept s (record {
    name = refl;
    variables = all-contained g.variables;
    tables = all-contained g.tables;
    watch = watched_spellable s;
    has_vertex = has_one-map (vertex_renumbered f) kept stay.has_one;
    vertices = all-map (VertexFrom g (extent of_kept)) (vertex_renumbered f) kept (vertex_made s);
  })

  -- ---- it keeps the rules

  takes : (v : ℕ) (ps : List ℕ) → Named v → slice_get (parameters_of g) v ≡ Some ps → slice_get (parameters_of of_kept) (f v) ≡ Some ps
  takes v ps named is = ap (λ (all : List (List ℕ)). slice_get all (f v)) (map-map (λ (v : EventVertex). v.parameters) (vertex_renumbered f) kept) ∙ stay.takes v ps named is

  keeps_edge : (e : EventEdge) → Named e.target → KeepsEdge g.variables (length g.tables) (parameters_of g) e → KeepsEdge g.variables (length g.tables) (parameters_of of_kept) (edge_renumbered f e)
  keeps_edge e named k = record {
    parameters = k.parameters;
    target = takes e.target k.parameters named k.target;
    carries = carries_still g.variables (length g.tables) (parameters_of g) (parameters_of of_kept) e.kind k.parameters e.values k.carries;
    timing = timing_still g.variables (length g.tables) (parameters_of g) (parameters_of of_kept) e.kind k.timing;
    condition = k.condition;
  }

  keeps_vertex : (v : EventVertex) → Among v kept → KeepsVertex g.variables (length g.tables) (parameters_of g) v → KeepsVertex g.variables (length g.tables) (parameters_of of_kept) (vertex_renumbered f v)
  keeps_vertex v there k = record {
    name = k.name;
    parameters = k.parameters;
    each_once = k.each_once;
    few_parameters = k.few_parameters;
    changes = each-among (KeepsChange g.variables (length g.tables) (parameters_of of_kept)) v.changes (λ c among.
        change_still g.variables (length g.tables) (parameters_of g) (parameters_of of_kept) c (of-among (KeepsChange g.variables (length g.tables) (parameters_of g)) v.changes c k.changes among));
    few_changes = k.few_changes;
    edges = all-map (KeepsEdge g.variables (length g.tables) (parameters_of of_kept)) (edge_renumbered f) v.edges (λ e among.
        keeps_edge e (stay.edges v there e among) (of-among (KeepsEdge g.variables (length g.tables) (parameters_of g)) v.edges e k.edges among));
    few_edges = subst (λ n. n ≤ EDGES_MAX) (sym (length-map v.edges (edge_renumbered f))) k.few_edges;
  }

  watch_keeps : KeepsParts g → AllByRecursion (IsWatchable (length g.variables) (length of_kept.vertices)) of_kept.watch
  watch_keeps k = all-map (IsWatchable (length g.variables) (length of_kept.vertices)) (watched_renumbered f) g.watch one where
    one : (w : Watched) → Among w g.watch → IsWatchable (length g.variables) (length of_kept.vertices) (watched_renumbered f w)
    one (WatchedVariable v) there = of-among (IsWatchable (length g.variables) (length g.vertices)) g.watch (WatchedVariable v) k.watch there
    one (WatchedVertex v) there = within v (stay.watched v there).0 (of-among (IsWatchable (length g.variables) (length g.vertices)) g.watch (WatchedVertex v) k.watch there)

  items : KeepsParts g → AllByRecursion (WatchedItem (length g.variables) Listed) g.watch
  items k = each-among (WatchedItem (length g.variables) Listed) g.watch one where
    one : (w : Watched) → Among w g.watch → WatchedItem (length g.variables) Listed w
    one (WatchedVariable v) there = of-among (IsWatchable (length g.variables) (length g.vertices)) g.watch (WatchedVariable v) k.watch there
    one (WatchedVertex v) there = (stay.watched v there).1

  names_distinct : KeepsParts g → IsDistinct same_bytes (map (λ (v : Variable). v.name) g.variables ++ map (λ (t : WeightTable). t.name) g.tables ++ map (λ (v : EventVertex). v.name) of_kept.vertices)
  names_distinct k =
      let front = map (λ (v : Variable). v.name) g.variables ++ map (λ (t : WeightTable). t.name) g.tables in
      let name : EventVertex → List ℕ = λ v. v.name in
      subst (λ (ns : List (List ℕ)). IsDistinct same_bytes (map (λ (v : Variable). v.name) g.variables ++ map (λ (t : WeightTable). t.name) g.tables ++ ns)) (sym (map-map name (vertex_renumbered f) kept))
      (some-distinct same_bytes (some-behind front (some-map name stay.some)) k.declared_once)

  pub kept-parts : KeepsParts g → KeepsParts of_kept
  kept-parts k = record {
    name = k.name;
    declared_once = names_distinct k;
    variables = k.variables;
    few_variables = k.few_variables;
    tables = k.tables;
    few_tables = k.few_tables;
    watch = watch_keeps k;
    watched_once = watch_apart (length g.variables) f Listed stay.apart g.watch (items k) k.watched_once;
    vertices = all-map (KeepsVertex g.variables (length g.tables) (parameters_of of_kept)) (vertex_renumbered f) kept (λ v there.
        keeps_vertex v there (of-among (KeepsVertex g.variables (length g.tables) (parameters_of g)) g.vertices v k.vertices (was-there v there)));
    few_vertices = le_trans (subst (λ n. n ≤ length g.vertices) (sym (length-map kept (vertex_renumbered f))) (some-few stay.some)) k.few_vertices;
  }
