-- The result of a merge keeps the static rules, and a text can write it.
use Rattle.std.proofs.Common.{◌≡◌, ◌∙◌, ℕ, ◌≤◌, ◌<◌, nat_le, nat_lt, true, false, List, [], ◌∷◌, ◌++◌, map, length, Option, Some, None, refl, sym, ap, subst, arith}
use Rattle.std.proofs.lemmas.Bool.Decides.{nat_tests}
use Rattle.std.specs.List.{AllByRecursion, AllZip, IsDistinct, sum_by}
use Rattle.std.specs.Option.{option_map_or}
use Rattle.sig_base.specs.declared.limits.TheConstants.{TEXT_MAX, CELLS_MAX, CHANGES_MAX, EDGES_MAX, VERTICES_MAX, OPENINGS_MAX}
use Rattle.model_core.specs.declared.model.Kind.{Kind}
use Rattle.model_core.specs.EventGraph.{EventGraph, EventVertex, EventEdge, Expression, Variable, WeightTable, scalar_location}
use Rattle.model_core.specs.Run.Step.{vertex_at, no_vertex}
use Rattle.model_core.specs.Text.Lexing.{same_bytes}
use Rattle.model_core.specs.Text.Canonical.{canonical}
use Rattle.model_core.specs.Text.Spellable.{IsNonEmpty, extent, location_openings, expression_openings, openings_together, edge_openings, SpellableLocation, SpellableChange, SpellableEdge, SpellableVertex, SpellableWatched, IsSpellable}
use Rattle.model_core.specs.Static.HasKind.{IsVariable, HasKind}
use Rattle.model_core.specs.Static.OwnRules.{CarriedFitKinds, KeepsEdge, KeepsVertex, IsWatchable, parameters_of, KeepsParts, KeepsStaticRules}
use Rattle.model_core.specs.Rules.UrgentEdges.{plain_urgent}
use Rattle.model_core.specs.Rules.Merge.{set_parameters, merged_vertex, merged_with, values_at_once, merged, has_few_parts}
use Rattle.model_core.proofs.BothTrue.{and_first, and_second}
use Rattle.static_laws.proofs.StaticTwins.DeclaredNames.{every_item}
use Rattle.model_core.proofs.EachOne.{every-joined}
use Rattle.merge_rules.proofs.OneStepForTwo.EdgesAside.{urgent_edge}
use Rattle.merge_rules.proofs.OneStepForTwo.TwoInOne.{joined_vertex}
use Rattle.merge_rules.proofs.OneStepForTwo.MergedModels.{place-here}
use Rattle.model_core.proofs.PlacesChanged.{map_placed, length_placed, has_one_placed}
use Rattle.vertex_laws.proofs.PlacedElement.{every_placed}
use Rattle.merge_rules.proofs.OneStepForTwo.MergeHolds.{Mergeable, there_is, without_one, the_one, vertex_keeps, set_keeps_rules, carried}
use Rattle.vertex_laws.proofs.ReadElement.{read_at}
use Rattle.vertex_laws.proofs.MergedNames.{name_stays}
use Rattle.merge_rules.proofs.OneStepForTwo.MergeResult.{joined_is}

at_most : (m n : ℕ) → nat_le m n ≡ true → m ≤ n
at_most m n e = grind (arith, nat_tests)

-- ---- the parameters stay

parameters_stay : (b a : EventVertex) → (merged_with b a).parameters ≡ a.parameters
parameters_stay b a = by_edge (plain_urgent a) where
  by_edge : (o : Option ℕ) → (option_map_or (merged_vertex b (values_at_once a) a) o a).parameters ≡ a.parameters
  by_edge None = refl
  by_edge (Some place) = refl

module _ (g : EventGraph) (keeps : KeepsParts g) (first second : ℕ) (h : Mergeable g first second) where
  abbrev a : EventVertex
  a = vertex_at g first

  abbrev b : EventVertex
  b = vertex_at g second

  abbrev rest : List EventEdge
  rest = h.edge.before ++ h.edge.after

  abbrev at_once : EventEdge
  at_once = urgent_edge second h.edge.values

  abbrev result : EventGraph
  result = merged g first second

  abbrev joined : EventVertex
  joined = joined_vertex a rest h.edge.values b

  -- ---- the static rules

  few_parts : has_few_parts joined ≡ true
  few_parts =
      let (v, there) = there_is g.vertices first h.exists in
      subst (λ v. has_few_parts v ≡ true) (place-here (merged_with b) first g.vertices no_vertex v there ∙ joined_is a b second h.edge)
      (and_first (has_few_parts (vertex_at result first)) _ h.within)

  abbrev Keeps : EventVertex → Type 0
  Keeps v = KeepsVertex g.variables (length g.tables) (parameters_of g) v

  joined_keeps : Keeps joined
  joined_keeps =
      let ka = vertex_keeps g keeps first h.exists in
      let kb = vertex_keeps g keeps second h.target_exists in
      record {
        name = ka.name;
        parameters = ka.parameters;
        each_once = ka.each_once;
        few_parameters = ka.few_parameters;
        changes = every-joined _ a.changes (set_parameters b.parameters h.edge.values ++ b.changes) ka.changes (every-joined _ (set_parameters b.parameters h.edge.values) b.changes (set_keeps_rules g keeps first second h) kb.changes);
        few_changes = at_most (length joined.changes) CHANGES_MAX (and_first (nat_le (length joined.changes) CHANGES_MAX) _ few_parts);
        edges = every-joined _ rest b.edges (without_one _ h.edge.before at_once h.edge.after (subst (AllByRecursion (KeepsEdge g.variables (length g.tables) (parameters_of g))) h.edge.whole ka.edges)) kb.edges;
        few_edges = at_most (length joined.edges) EDGES_MAX (and_second (nat_le (length joined.changes) CHANGES_MAX) _ few_parts);
      }

  same_parameters : parameters_of result ≡ parameters_of g
  same_parameters = map_placed (λ (v : EventVertex). v.parameters) (merged_with b) (parameters_stay b) first g.vertices

  same_length : length result.vertices ≡ length g.vertices
  same_length = length_placed (merged_with b) first g.vertices

  merged_parts : KeepsParts result
  merged_parts = record {
    name = keeps.name;
    declared_once = subst (IsDistinct same_bytes) (ap (λ ns. map (λ (v : Variable). v.name) g.variables ++ map (λ (t : WeightTable). t.name) g.tables ++ ns) (sym (map_placed (λ (v : EventVertex). v.name) (merged_with b) (name_stays b) first g.vertices))) keeps.declared_once;
    variables = keeps.variables;
    few_variables = keeps.few_variables;
    tables = keeps.tables;
    few_tables = keeps.few_tables;
    watch = subst (λ n. AllByRecursion (IsWatchable (length g.variables) n) g.watch) (sym same_length) keeps.watch;
    watched_once = keeps.watched_once;
    vertices = subst (λ ts. AllByRecursion (KeepsVertex g.variables (length g.tables) ts) result.vertices) (sym same_parameters)
        (every_placed Keeps (merged_with b) first g.vertices no_vertex keeps.vertices (subst Keeps (sym (joined_is a b second h.edge)) joined_keeps));
    few_vertices = subst (λ n. n ≤ VERTICES_MAX) (sym same_length) keeps.few_vertices;
  }

  pub merged_rules : sum_by (λ (v : Variable). v.size) g.variables ≤ CELLS_MAX → KeepsStaticRules result
  merged_rules few = record { parts = merged_parts; few_cells = few; short = at_most (length (canonical result)) TEXT_MAX (and_second (has_few_parts (vertex_at result first)) _ h.within) }

  -- ---- a text can write it

  scalars_spellable : (variables : ℕ) (ps : List ℕ) → AllByRecursion (λ p. p < variables) ps → AllByRecursion (SpellableLocation variables) (map scalar_location ps)
  scalars_spellable variables [] all = tt
  scalars_spellable variables (p ∷ ps) (here, all) = (record { variable = here; index = tt }, scalars_spellable variables ps all)

  no_openings : (ps : List ℕ) → openings_together location_openings (map scalar_location ps) ≡ 0
  no_openings [] = refl
  no_openings (p ∷ ps) = let later = no_openings ps in omega (arith, later)

  has_one_given : (p : ℕ) (ps : List ℕ) (values : List Expression) → CarriedFitKinds g.variables (length g.tables) (parameters_of g) (p ∷ ps) values → IsNonEmpty values
  has_one_given p ps values carried = by_kinds carried.kinds values carried.taken carried.given where
    by_kinds : (ks : List Kind) (values : List Expression) → AllZip (λ v kind. IsVariable g.variables v false kind) (p ∷ ps) ks → AllZip (HasKind g.variables) values ks → IsNonEmpty values
    by_kinds [] values taken given = absurd taken
    by_kinds (k ∷ ks) [] taken given = absurd given
    by_kinds (k ∷ ks) (v ∷ vs) taken given = tt

  few_given : (values : List Expression) → IsNonEmpty values → edge_openings (urgent_edge second values) ≤ OPENINGS_MAX → openings_together expression_openings values ≤ OPENINGS_MAX
  few_given [] one few = absurd one
  few_given (v ∷ vs) one few = omega (arith, few)

  set_spellable : (ps : List ℕ) (values : List Expression) → AllByRecursion (λ p. p < (extent g).variables) ps → CarriedFitKinds g.variables (length g.tables) (parameters_of g) ps values → SpellableEdge (extent g) (urgent_edge second values) → AllByRecursion (SpellableChange (extent g)) (set_parameters ps values)
  set_spellable [] values all carried edge = tt
  set_spellable (p ∷ ps) values all carried edge =
      let one = has_one_given p ps values carried in
      let few = few_given values one edge.few_openings in
      let none = no_openings (p ∷ ps) in (
        record {
          parts = (tt, scalars_spellable (extent g).variables (p ∷ ps) all, one, edge.values);
          few_openings = omega (arith, none, few);
        },
        tt,
      )

  abbrev Spells : EventVertex → Type 0
  Spells v = SpellableVertex (extent g) v

  joined_spells : IsSpellable g → Spells joined
  joined_spells s =
      let (v, there) = there_is g.vertices first h.exists in
      let sa = vertex_spells s first h.exists in
      let sb = vertex_spells s second h.target_exists in
      let edges = subst (AllByRecursion (SpellableEdge (extent g))) h.edge.whole sa.edges in
      record {
        name = sa.name;
        parameters = sa.parameters;
        changes = every-joined _ a.changes (set_parameters b.parameters h.edge.values ++ b.changes) sa.changes
            (every-joined _ (set_parameters b.parameters h.edge.values) b.changes (set_spellable b.parameters h.edge.values sb.parameters (carried g keeps first second h) (the_one _ h.edge.before at_once h.edge.after edges)) sb.changes);
        edges = every-joined _ rest b.edges (without_one _ h.edge.before at_once h.edge.after edges) sb.edges;
      }
    where
      vertex_spells : IsSpellable g → (k : ℕ) → nat_lt k (length g.vertices) ≡ true → Spells (vertex_at g k)
      vertex_spells s k below =
          let (v, there) = there_is g.vertices k below in
          subst Spells (sym (read_at g.vertices k no_vertex v there)) (every_item Spells g.vertices k v s.vertices there)

  same_extent : extent result ≡ extent g
  same_extent = ap (λ n. record { variables = length g.variables; tables = length g.tables; vertices = n }) same_length

  pub merged_spellable : IsSpellable g → IsSpellable result
  merged_spellable s = record {
    name = s.name;
    variables = s.variables;
    tables = s.tables;
    watch = subst (λ x. AllByRecursion (SpellableWatched x) g.watch) (sym same_extent) s.watch;
    has_vertex = has_one_placed (merged_with b) first g.vertices s.has_vertex;
    vertices = subst (λ x. AllByRecursion (SpellableVertex x) result.vertices) (sym same_extent)
        (every_placed Spells (merged_with b) first g.vertices no_vertex s.vertices (subst Spells (sym (joined_is a b second h.edge)) (joined_spells s)));
  }
