-- A model in which one vertex has other edges, no more of them and none that asks for more, keeps the static rules, can be
-- written, and has no longer text.
use Rattle.std.proofs.Common.{◌≡◌, ℕ, ◌≤◌, true, List, [], ◌++◌, map, length, refl, sym, ap, subst, le_trans}
use Rattle.std.specs.Prelude.{codes}
use Rattle.std.specs.List.{AllByRecursion, flat_map, list_any, IsDistinct}
use Rattle.sig_base.specs.declared.limits.TheConstants.{VERTICES_MAX}
use Rattle.model_core.specs.EventGraph.{EventVertex, EventEdge, Variable, WeightTable, EventGraph, has_drawn_delay}
use Rattle.model_core.specs.Text.Lexing.{same_bytes}
use Rattle.model_core.specs.Text.Canonical.{variable_name, vertex_lines, change_line, edge_line, in_parentheses, variable_line, table_line, watched_name, watch_names_line, watch_line, canonical}
use Rattle.model_core.specs.Text.Spellable.{Extent, extent, SpellableEdge, SpellableVertex, SpellableWatched, IsSpellable}
use Rattle.model_core.specs.Static.OwnRules.{KeepsEdge, KeepsVertex, IsWatchable, parameters_of, KeepsParts, KeepsStaticRules}
use Rattle.model_core.specs.Rules.PlacedEdges.{with_vertex}
use Rattle.model_core.proofs.SameNames.{SameNames, map_alike, watched_alike, vertex_alike}
use Rattle.model_core.proofs.PlacesChanged.{shown_placed, map_placed, length_placed, has_one_placed}
use Rattle.edge_pruning.proofs.ListsChanged.{all_with_place}
use Rattle.model_core.proofs.NoLongerTexts.{NoLonger, no_longer-after, no_longer-before, no_longer-same, no_longer-both}
use Rattle.round_trip.proofs.VersionsKept.{needed-placed, declared-shorter}
use Rattle.edge_pruning.proofs.Shorter.{lines_with_place}

-- the vertex with its edges changed
abbrev pub edges_changed : (List EventEdge → List EventEdge) → EventVertex → EventVertex
edges_changed change v = record v { edges = change v.edges }

-- the graph in which the vertex at this place has its edges changed
abbrev pub changed_at : EventGraph → ℕ → (List EventEdge → List EventEdge) → EventGraph
changed_at g vertex change = with_vertex (edges_changed change) vertex g

-- a change of edges that leaves no more of them, rules and writing as they were, no longer lines, and a delay drawn only where
-- one was
pub record Lessens (change : List EventEdge → List EventEdge) : Type 0 where
  pub no_more_edges : (es : List EventEdge) → length (change es) ≤ length es
  pub keeps_rules : (variables : List Variable) (tables : ℕ) (takes : List (List ℕ)) (es : List EventEdge) → AllByRecursion (KeepsEdge variables tables takes) es → AllByRecursion (KeepsEdge variables tables takes) (change es)
  pub spellable : (x : Extent) (es : List EventEdge) → AllByRecursion (SpellableEdge x) es → AllByRecursion (SpellableEdge x) (change es)
  pub drawn : (es : List EventEdge) → list_any has_drawn_delay (change es) ≡ true → list_any has_drawn_delay es ≡ true
  pub lines : (g : EventGraph) (es : List EventEdge) → NoLonger (flat_map (edge_line g) (change es)) (flat_map (edge_line g) es)

module _ (g : EventGraph) (vertex : ℕ) (change : List EventEdge → List EventEdge) (ok : Lessens change) where
  abbrev h : EventGraph
  h = changed_at g vertex change

  abbrev f : EventVertex → EventVertex
  f = edges_changed change

  same_names : SameNames g h
  same_names = record { variable = λ v. refl; table = λ t. refl; vertex = λ v. shown_placed (λ (x : EventVertex). x.name) f [] (λ x. refl) vertex g.vertices v }

  same_extent : extent h ≡ extent g
  same_extent = ap (λ n. record { variables = length g.variables; tables = length g.tables; vertices = n }) (length_placed f vertex g.vertices)

  spellable_vertex : (x : Extent) (v : EventVertex) → SpellableVertex x v → SpellableVertex x (f v)
  spellable_vertex x v s = record { name = s.name; parameters = s.parameters; changes = s.changes; edges = ok.spellable x v.edges s.edges }

  pub changed_spellable : IsSpellable g → IsSpellable h
  changed_spellable s = record {
    name = s.name;
    variables = s.variables;
    tables = s.tables;
    watch = subst (λ x. AllByRecursion (SpellableWatched x) g.watch) (sym same_extent) s.watch;
    has_vertex = has_one_placed f vertex g.vertices s.has_vertex;
    vertices = subst (λ x. AllByRecursion (SpellableVertex x) h.vertices) (sym same_extent) (all_with_place (SpellableVertex (extent g)) f (spellable_vertex (extent g)) vertex g.vertices s.vertices);
  }

  -- ---- its text is no longer

  lines_changed : (v : EventVertex) → NoLonger (vertex_lines g (f v)) (vertex_lines g v)
  lines_changed v = no_longer-before (codes "}\n") (no_longer-after (codes "vertex " ++ v.name ++ in_parentheses (map (variable_name g) v.parameters) ++ codes " {\n" ++ flat_map (change_line g) v.changes) (ok.lines g v.edges))

  canonical_shorter : NoLonger (canonical h) (canonical g)
  canonical_shorter =
      no_longer-before (codes "end\n")
      (no_longer-both (no_longer-both (declared-shorter h g (needed-placed g change ok.drawn vertex) g.name (flat_map variable_line g.variables) (flat_map table_line g.tables)) watch)
      (lines_with_place (vertex_lines g) (vertex_lines h) f changed same vertex g.vertices))
    where
      watch : NoLonger (watch_line h) (watch_line g)
      watch = no_longer-same _ _ (ap watch_names_line (map_alike (watched_name h) (watched_name g) (λ w. sym (watched_alike g h same_names w)) g.watch))

      changed : (x : EventVertex) → NoLonger (vertex_lines h (f x)) (vertex_lines g x)
      changed x = subst (λ y. NoLonger y (vertex_lines g x)) (vertex_alike g h same_names (f x)) (lines_changed x)

      same : (x : EventVertex) → NoLonger (vertex_lines h x) (vertex_lines g x)
      same x = no_longer-same _ _ (sym (vertex_alike g h same_names x))

  -- ---- it keeps the rules

  same_parameters : parameters_of h ≡ parameters_of g
  same_parameters = map_placed (λ (v : EventVertex). v.parameters) f (λ v. refl) vertex g.vertices

  keeps_vertex : (variables : List Variable) (tables : ℕ) (takes : List (List ℕ)) (v : EventVertex) → KeepsVertex variables tables takes v → KeepsVertex variables tables takes (f v)
  keeps_vertex variables tables takes v k = record {
    name = k.name;
    parameters = k.parameters;
    each_once = k.each_once;
    few_parameters = k.few_parameters;
    changes = k.changes;
    few_changes = k.few_changes;
    edges = ok.keeps_rules variables tables takes v.edges k.edges;
    few_edges = le_trans (ok.no_more_edges v.edges) k.few_edges;
  }

  changed_parts : KeepsParts g → KeepsParts h
  changed_parts k = record {
    name = k.name;
    declared_once = subst (IsDistinct same_bytes) (ap (λ ns. map (λ (v : Variable). v.name) g.variables ++ map (λ (t : WeightTable). t.name) g.tables ++ ns) (sym (map_placed (λ (v : EventVertex). v.name) f (λ v. refl) vertex g.vertices))) k.declared_once;
    variables = k.variables;
    few_variables = k.few_variables;
    tables = k.tables;
    few_tables = k.few_tables;
    watch = subst (λ n. AllByRecursion (IsWatchable (length g.variables) n) g.watch) (sym (length_placed f vertex g.vertices)) k.watch;
    watched_once = k.watched_once;
    vertices = subst (λ ts. AllByRecursion (KeepsVertex g.variables (length g.tables) ts) h.vertices) (sym same_parameters)
        (all_with_place (KeepsVertex g.variables (length g.tables) (parameters_of g)) f (keeps_vertex g.variables (length g.tables) (parameters_of g)) vertex g.vertices k.vertices);
    few_vertices = subst (λ n. n ≤ VERTICES_MAX) (sym (length_placed f vertex g.vertices)) k.few_vertices;
  }

  pub changed_rules : KeepsStaticRules g → KeepsStaticRules h
  changed_rules k = record { parts = changed_parts k.parts; few_cells = k.few_cells; short = le_trans canonical_shorter.at_most k.short }
