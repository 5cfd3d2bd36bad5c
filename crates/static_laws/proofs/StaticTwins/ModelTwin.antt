-- A whole written model: nothing of it is broken exactly where it is numbered as a model that keeps the static rules by itself.
use Rattle.std.proofs.Common.{◌≡◌, ◌↔◌, ℕ, ◌≤◌, ◌<◌, false, List, [], ◌∷◌, ◌++◌, map, length, Option, Some, None, nat_eq, nat_lt, refl, sym, ap, subst, ◌∙◌, arith}
use Rattle.std.specs.Prelude.{sum_by}
use Rattle.std.specs.List.{flat_map, AllByRecursion, IsDistinct, Contains}
use Rattle.std.proofs.lemmas.Option.{same_Some}
use Rattle.std.proofs.lemmas.List.{length-map}
use Rattle.sig_base.specs.declared.limits.TheConstants.{TEXT_MAX, CELLS_MAX, VARIABLES_MAX, TABLES_MAX, VERTICES_MAX, CHANGES_MAX, EDGES_MAX}
use Rattle.model_core.specs.declared.model.Kind.{Kind}
use Rattle.model_core.specs.declared.static_kind.StaticKind.TheVariants as rules
use Rattle.model_core.specs.EventGraph.{EventGraph, EventVertex, Variable, WeightTable, Watched}
use Rattle.model_core.specs.Text.Lexing.{same_bytes}
use Rattle.model_core.specs.Text.Canonical.{canonical}
use Rattle.model_core.specs.Text.Written.{WrittenVariable, WrittenTable, WrittenVertex, WrittenModel, WrittenEdge}
use Rattle.model_core.specs.Text.Numbering as numbering
use Rattle.model_core.specs.Text.Numbering.{each_numbered, written_or, Declared, declared_by, numbered}
use Rattle.model_core.specs.Text.Spellable.{declared_names}
use Rattle.model_core.specs.Static.FaultOrder.{StaticFault}
use Rattle.model_core.specs.Static.Meanings.{declarations, declared_name}
use Rattle.model_core.specs.Static.RuleTable.{name_too_long, too_many, model_too_long}
use Rattle.model_core.specs.Static.PartFaults.{written_items, repeated_names, change_place, change_faults, edge_faults, parameters_faults, variable_faults, table_faults, vertex_faults}
use Rattle.model_core.specs.Static.ModelFaults.{model_meaning, model_takes, watch_faults, faults_of_counts, faults_of_parts, or_too_long, model_faults, Accepted}
use Rattle.model_core.specs.Static.VersionFaults.{version_faults}
use Rattle.model_core.specs.Static.HasKind.{IsVariable}
use Rattle.model_core.specs.Static.OwnRules.{IsShort, KeepsVariable, KeepsTable, KeepsVertex, IsWatchable, watch_number, KeepsParts, KeepsStaticRules}
use Rattle.model_core.specs.Static.WrittenByKind.{IsWrittenByKind, VariablesByKind}
use Rattle.model_core.proofs.EmptyLists.{left_empty, right_empty}
use Rattle.model_core.proofs.EachOne.{every-images}
use Rattle.static_laws.specs.FitsVersion.{FitsVersion}
use Rattle.static_laws.proofs.StaticTwins.MadeOf.{of_one, of_three, of_four, of_each, each_cons, each_length}
use Rattle.static_laws.proofs.StaticTwins.Twins.{both_empty, Twin, twin_each, twin_each_with}
use Rattle.static_laws.proofs.StaticTwins.RowTwins.{not_above, fault_where-none, short_name}
use Rattle.static_laws.proofs.StaticTwins.DeclarationTwins.{few_items, variable_twin, table_twin}
use Rattle.static_laws.proofs.StaticTwins.RepeatedNames.{distinct_names}
use Rattle.static_laws.proofs.StaticTwins.NumberedPlaces.{each_same}
use Rattle.static_laws.proofs.StaticTwins.NamesAgree.{NamesAgree}
use Rattle.static_laws.proofs.StaticTwins.DeclaredNames.{variable_name_same, all_names, names_agree}
use Rattle.static_laws.proofs.StaticTwins.WatchTwins.{KeepsWatch, watch_list_twin}
use Rattle.static_laws.proofs.StaticTwins.VertexTwins.{numbered_parameters, parameters_twin, TakesKnown, takes_known, vertex_made, vertex_twin}
use Rattle.static_laws.proofs.StaticTwins.VersionTwin.{version_twin}

-- what is made of each item of a list is numbered as what is made of what the item is numbered as
pub each_via : {A B C : Type 0} (f : A → Option B) (q : B → C) (h : A → Option C) → ((x : A) (y : B) → f x ≡ Some y → h x ≡ Some (q y)) → (xs : List A) (ys : List B) → each_numbered f xs ≡ Some ys → each_numbered h xs ≡ Some (map q ys)
each_via f q h same [] ys e = ap (λ zs. Some (map q zs)) (same_Some [] ys e)
each_via f q h same (x ∷ xs) ys e =
    let p = of_each f x xs ys e in
    each_cons h x xs (q p.a) (map q p.b) (same x p.a p.is_a) (each_via f q h same xs p.b p.is_b) ∙ ap (λ zs. Some (map q zs)) p.made

table_name_same : (t : WrittenTable) (y : WeightTable) → numbering.table t ≡ Some y → y.name ≡ t.name.name
table_name_same t y e = let p = of_one (λ rows. record { name = t.name.name; rows = rows }) (each_numbered numbering.row t.rows) y e in ap (λ (x : WeightTable). x.name) (sym p.made)

module _ (d : Declared) (v : WrittenVertex) (y : EventVertex) (e : numbering.vertex d v ≡ Some y) where
  vertex_name_same : y.name ≡ v.name.name
  vertex_name_same = let p = of_three (vertex_made v.name.name) (numbered_parameters d v) (each_numbered (numbering.change d) v.changes) (each_numbered (numbering.edge d) v.edges) y e in ap (λ (x : EventVertex). x.name) (sym p.made)

  vertex_parameters : numbered_parameters d v ≡ Some y.parameters
  vertex_parameters = let p = of_three (vertex_made v.name.name) (numbered_parameters d v) (each_numbered (numbering.change d) v.changes) (each_numbered (numbering.edge d) v.edges) y e in p.is_a ∙ ap (λ (x : EventVertex). Some x.parameters) p.made

-- a parameter of a vertex of these variables
abbrev ParameterOf : List Variable → ℕ → Type 0
ParameterOf variables v = (kind : Kind) × IsVariable variables v false kind

abbrev AreParameters : List Variable → List ℕ → Type 0
AreParameters variables ps = AllByRecursion (ParameterOf variables) ps

module _ (m : WrittenModel) where
  variable_names : List (List ℕ)
  variable_names = map (λ (v : WrittenVariable). v.name.name) m.variables

  table_names : List (List ℕ)
  table_names = map (λ (t : WrittenTable). t.name.name) m.tables

  vertex_names : List (List ℕ)
  vertex_names = map (λ (v : WrittenVertex). v.name.name) m.vertices

  abbrev model_made : List Variable → List WeightTable → List Watched → List EventVertex → EventGraph
  model_made variables tables watch vertices = record { name = m.name.name; variables = variables; tables = tables; watch = watch; vertices = vertices }

  -- ---- the parts of the faults, in order

  abbrev names : List StaticFault
  names = name_too_long m.name

  abbrev repeated : List StaticFault
  repeated = repeated_names [] (map declared_name (declarations m))

  abbrev of_variables : List StaticFault
  of_variables = flat_map variable_faults m.variables

  abbrev of_tables : List StaticFault
  of_tables = flat_map table_faults m.tables

  abbrev of_watch : List StaticFault
  of_watch = watch_faults m (written_items m.watch)

  abbrev of_vertices : List StaticFault
  of_vertices = flat_map (vertex_faults (model_meaning m) (model_takes m)) m.vertices

  record NoneBroken : Type 0 where
    in_name : names ≡ []
    in_names : repeated ≡ []
    in_counts : faults_of_counts m ≡ []
    in_variables : of_variables ≡ []
    in_tables : of_tables ≡ []
    in_watch : of_watch ≡ []
    in_vertices : of_vertices ≡ []

  apart : faults_of_parts m ≡ [] → NoneBroken
  apart e =
      let f5 = left_empty (names ++ repeated ++ faults_of_counts m ++ of_variables ++ of_tables ++ of_watch) of_vertices e in
      let f4 = left_empty (names ++ repeated ++ faults_of_counts m ++ of_variables ++ of_tables) of_watch f5 in
      let f3 = left_empty (names ++ repeated ++ faults_of_counts m ++ of_variables) of_tables f4 in
      let f2 = left_empty (names ++ repeated ++ faults_of_counts m) of_variables f3 in
      let f1 = left_empty (names ++ repeated) (faults_of_counts m) f2 in
      record {
        in_name = left_empty names repeated f1;
        in_names = right_empty names repeated f1;
        in_counts = right_empty (names ++ repeated) (faults_of_counts m) f2;
        in_variables = right_empty (names ++ repeated ++ faults_of_counts m) of_variables f3;
        in_tables = right_empty (names ++ repeated ++ faults_of_counts m ++ of_variables) of_tables f4;
        in_watch = right_empty (names ++ repeated ++ faults_of_counts m ++ of_variables ++ of_tables) of_watch f5;
        in_vertices = right_empty (names ++ repeated ++ faults_of_counts m ++ of_variables ++ of_tables ++ of_watch) of_vertices e;
      }

  together : NoneBroken → faults_of_parts m ≡ []
  together n =
      both_empty (names ++ repeated ++ faults_of_counts m ++ of_variables ++ of_tables ++ of_watch) of_vertices
      (both_empty (names ++ repeated ++ faults_of_counts m ++ of_variables ++ of_tables) of_watch
      (both_empty (names ++ repeated ++ faults_of_counts m ++ of_variables) of_tables
      (both_empty (names ++ repeated ++ faults_of_counts m) of_variables
      (both_empty (names ++ repeated) (faults_of_counts m)
      (both_empty names repeated n.in_name n.in_names) n.in_counts) n.in_variables) n.in_tables) n.in_watch) n.in_vertices

  variables_twin : Twin of_variables (each_numbered numbering.variable m.variables) (λ ys. AllByRecursion IsWrittenByKind m.variables × AllByRecursion KeepsVariable ys)
  variables_twin = twin_each_with variable_faults numbering.variable IsWrittenByKind KeepsVariable variable_twin m.variables

  tables_twin : Twin of_tables (each_numbered numbering.table m.tables) (AllByRecursion KeepsTable)
  tables_twin = twin_each table_faults numbering.table KeepsTable table_twin m.tables

  -- ---- names that are short

  short_variables : (ys : List Variable) → each_numbered numbering.variable m.variables ≡ Some ys → AllByRecursion KeepsVariable ys → AllByRecursion IsShort variable_names
  unfolding variable_names
  short_variables ys s h = subst (AllByRecursion IsShort) (each_same numbering.variable (λ (v : WrittenVariable). v.name.name) (λ (y : Variable). y.name) variable_name_same m.variables ys s) (every-images KeepsVariable IsShort (λ (y : Variable). y.name) (λ y k. k.name) ys h)

  short_tables : (ys : List WeightTable) → each_numbered numbering.table m.tables ≡ Some ys → AllByRecursion KeepsTable ys → AllByRecursion IsShort table_names
  unfolding table_names
  short_tables ys s h = subst (AllByRecursion IsShort) (each_same numbering.table (λ (t : WrittenTable). t.name.name) (λ (y : WeightTable). y.name) table_name_same m.tables ys s) (every-images KeepsTable IsShort (λ (y : WeightTable). y.name) (λ y k. k.name) ys h)

  vertex_front : (v : WrittenVertex) → vertex_faults (model_meaning m) (model_takes m) v ≡ [] → (name_too_long v.name ≡ []) × (parameters_faults (model_meaning m) (model_takes m) (written_items v.parameters) ≡ [])
  vertex_front v e =
      let few_changes = too_many CHANGES_MAX (map change_place v.changes) in
      let few_edges = too_many EDGES_MAX (map (λ (e : WrittenEdge). e.at) v.edges) in
      let changes = flat_map (change_faults (model_meaning m)) v.changes in
      let edges = flat_map (edge_faults (model_meaning m) (model_takes m)) v.edges in
      let params = parameters_faults (model_meaning m) (model_takes m) (written_items v.parameters) in
      let f = left_empty (name_too_long v.name ++ params) few_changes
      (left_empty (name_too_long v.name ++ params ++ few_changes) changes
      (left_empty (name_too_long v.name ++ params ++ few_changes ++ changes) few_edges
      (left_empty (name_too_long v.name ++ params ++ few_changes ++ changes ++ few_edges) edges e))) in
      (left_empty (name_too_long v.name) params f, right_empty (name_too_long v.name) params f)

  each_front : (vs : List WrittenVertex) → flat_map (vertex_faults (model_meaning m) (model_takes m)) vs ≡ []
      → AllByRecursion (λ v. (name_too_long v.name ≡ []) × (parameters_faults (model_meaning m) (model_takes m) (written_items v.parameters) ≡ [])) vs
  each_front [] e = tt
  each_front (v ∷ vs) e = (
    vertex_front v (left_empty (vertex_faults (model_meaning m) (model_takes m) v) (flat_map (vertex_faults (model_meaning m) (model_takes m)) vs) e),
    each_front vs (right_empty (vertex_faults (model_meaning m) (model_takes m) v) (flat_map (vertex_faults (model_meaning m) (model_takes m)) vs) e),
  )

  short_written : of_vertices ≡ [] → AllByRecursion IsShort vertex_names
  unfolding vertex_names
  short_written e = every-images (λ (v : WrittenVertex). (name_too_long v.name ≡ []) × (parameters_faults (model_meaning m) (model_takes m) (written_items v.parameters) ≡ [])) IsShort (λ (v : WrittenVertex). v.name.name) (λ v p. (short_name v.name).0 p.0) m.vertices (each_front m.vertices e)

  short_vertices : (ys : List EventVertex) (takes : List (List ℕ)) (variables : List Variable) (tables : ℕ) → each_numbered (numbering.vertex (declared_by m)) m.vertices ≡ Some ys → AllByRecursion (KeepsVertex variables tables takes) ys → AllByRecursion IsShort vertex_names
  unfolding vertex_names
  short_vertices ys takes variables tables s h = subst (AllByRecursion IsShort) (each_same (numbering.vertex (declared_by m)) (λ (v : WrittenVertex). v.name.name) (λ (y : EventVertex). y.name) (vertex_name_same (declared_by m)) m.vertices ys s) (every-images (KeepsVertex variables tables takes) IsShort (λ (y : EventVertex). y.name) (λ y k. k.name) ys h)

  -- ---- where names agree

  module _ (variables : List Variable) (agree : NamesAgree (model_meaning m) (declared_by m) variables (length m.tables) (length m.vertices)) where
    record TakesNumbered (vs : List WrittenVertex) : Type 0 where
      takes : List (List ℕ)
      are : each_numbered (numbered_parameters (declared_by m)) vs ≡ Some takes
      parameters : AllByRecursion (AreParameters variables) takes

    takes_numbered : (vs : List WrittenVertex) → AllByRecursion (λ v. (name_too_long v.name ≡ []) × (parameters_faults (model_meaning m) (model_takes m) (written_items v.parameters) ≡ [])) vs → TakesNumbered vs
    takes_numbered [] h = record { takes = []; are = refl; parameters = tt }
    takes_numbered (v ∷ vs) h =
        let (ps, is, k) = (parameters_twin (model_meaning m) (declared_by m) variables (length m.tables) (length m.vertices) agree v.parameters).kept h.0.1 in
        let t = takes_numbered vs h.1 in
        record { takes = ps ∷ t.takes; are = each_cons (numbered_parameters (declared_by m)) v vs ps t.takes is t.are; parameters = (k.0.1, t.parameters) }

    module _ (takes : List (List ℕ)) (are : each_numbered (numbered_parameters (declared_by m)) m.vertices ≡ Some takes) (parameters : AllByRecursion (AreParameters variables) takes) where
      known : (k : ℕ) → k < length m.vertices → TakesKnown (model_meaning m) (declared_by m) variables (length m.tables) (length m.vertices) agree (model_takes m) takes k
      known k lt = takes_known (model_meaning m) (declared_by m) variables (length m.tables) (length m.vertices) agree m.vertices takes are parameters k lt

      vertices_twin : Twin of_vertices (each_numbered (numbering.vertex (declared_by m)) m.vertices) (AllByRecursion (KeepsVertex variables (length m.tables) takes))
      vertices_twin =
          twin_each (vertex_faults (model_meaning m) (model_takes m)) (numbering.vertex (declared_by m)) (KeepsVertex variables (length m.tables) takes)
          (vertex_twin (model_meaning m) (declared_by m) variables (length m.tables) (length m.vertices) agree (model_takes m) takes known) m.vertices

    watch_twin : Twin of_watch (written_or (each_numbered (numbering.watched (declared_by m))) [] m.watch) (KeepsWatch (model_meaning m) (declared_by m) variables (length m.tables) (length m.vertices) agree)
    watch_twin = watch_list_twin (model_meaning m) (declared_by m) variables (length m.tables) (length m.vertices) agree m.watch

  distinct_written : repeated ≡ [] → IsDistinct same_bytes (variable_names ++ table_names ++ vertex_names)
  unfolding variable_names table_names vertex_names
  distinct_written e = subst (IsDistinct same_bytes) (all_names m) ((distinct_names (map declared_name (declarations m))).0 e)

  agreement : (variables : List Variable) → each_numbered numbering.variable m.variables ≡ Some variables → AllByRecursion IsWrittenByKind m.variables → IsDistinct same_bytes (variable_names ++ table_names ++ vertex_names)
      → AllByRecursion IsShort variable_names → AllByRecursion IsShort table_names → AllByRecursion IsShort vertex_names
      → NamesAgree (model_meaning m) (declared_by m) variables (length m.tables) (length m.vertices)
  unfolding variable_names table_names vertex_names
  agreement variables s k dist a b c = names_agree m variables s k dist a b c

  none_repeated : IsDistinct same_bytes (variable_names ++ table_names ++ vertex_names) → repeated ≡ []
  unfolding variable_names table_names vertex_names
  none_repeated h = (distinct_names (map declared_name (declarations m))).1 (subst (IsDistinct same_bytes) (sym (all_names m)) h)

  -- the declared names of the model that is made
  same_names : (variables : List Variable) (tables : List WeightTable) (watch : List Watched) (vertices : List EventVertex) → each_numbered numbering.variable m.variables ≡ Some variables → each_numbered numbering.table m.tables ≡ Some tables → each_numbered (numbering.vertex (declared_by m)) m.vertices ≡ Some vertices
      → declared_names (model_made variables tables watch vertices) ≡ variable_names ++ table_names ++ vertex_names
  unfolding variable_names table_names vertex_names
  same_names variables tables watch vertices v t x = λ i.
      each_same numbering.variable (λ (w : WrittenVariable). w.name.name) (λ (y : Variable). y.name) variable_name_same m.variables variables v i
      ++ each_same numbering.table (λ (w : WrittenTable). w.name.name) (λ (y : WeightTable). y.name) table_name_same m.tables tables t i
      ++ each_same (numbering.vertex (declared_by m)) (λ (w : WrittenVertex). w.name.name) (λ (y : EventVertex). y.name) (vertex_name_same (declared_by m)) m.vertices vertices x i

  counts_few : (variables : List Variable) (tables : List WeightTable) (vertices : List EventVertex) → each_numbered numbering.variable m.variables ≡ Some variables → each_numbered numbering.table m.tables ≡ Some tables → each_numbered (numbering.vertex (declared_by m)) m.vertices ≡ Some vertices
      → faults_of_counts m ≡ [] ↔ ((length variables ≤ VARIABLES_MAX) × (length tables ≤ TABLES_MAX) × (length vertices ≤ VERTICES_MAX))
  counts_few variables tables vertices v t x =
      let cv = too_many VARIABLES_MAX (map (λ (v : WrittenVariable). v.at) m.variables) in
      let ct = too_many TABLES_MAX (map (λ (t : WrittenTable). t.at) m.tables) in
      let cx = too_many VERTICES_MAX (map (λ (v : WrittenVertex). v.at) m.vertices) in
      let tv = few_items VARIABLES_MAX (λ (v : WrittenVariable). v.at) numbering.variable m.variables variables v in
      let tt_ = few_items TABLES_MAX (λ (t : WrittenTable). t.at) numbering.table m.tables tables t in
      let tx = few_items VERTICES_MAX (λ (v : WrittenVertex). v.at) (numbering.vertex (declared_by m)) m.vertices vertices x in (
        λ e. (tv.0 (left_empty cv ct (left_empty (cv ++ ct) cx e)), tt_.0 (right_empty cv ct (left_empty (cv ++ ct) cx e)), tx.0 (right_empty (cv ++ ct) cx e)),
        λ h. both_empty (cv ++ ct) cx (both_empty cv ct (tv.1 h.0) (tt_.1 h.1)) (tx.1 h.2),
      )

  -- ---- both ways

  -- counts and names of the declarations are those of the model that is made
  as_counted : (variables : List Variable) (tables : List WeightTable) (ws : List Watched) (vertices : List EventVertex) (n k : ℕ) → length vertices ≡ n → length variables ≡ k
      → AllByRecursion (IsWatchable (length variables) n) ws × IsDistinct nat_eq (map (watch_number k) ws)
      → AllByRecursion (IsWatchable (length variables) (length vertices)) ws × IsDistinct nat_eq (map (watch_number (length variables)) ws)
  as_counted variables tables ws vertices n k p q (h, l) = (subst (λ i. AllByRecursion (IsWatchable (length variables) i) ws) (sym p) h, subst (λ i. IsDistinct nat_eq (map (watch_number i) ws)) (sym q) l)

  declared_count : (variables : List Variable) → each_numbered numbering.variable m.variables ≡ Some variables → length variables ≡ length (declared_by m).variables
  declared_count variables s = each_length numbering.variable m.variables variables s ∙ sym (length-map m.variables (λ (v : WrittenVariable). v.name.name))

  pub parts_kept : faults_of_parts m ≡ [] → (g : EventGraph) × (numbered m ≡ Some g) × KeepsParts g × VariablesByKind m
  parts_kept e =
      let n = apart e in
      let (variables, is_v, (by_kind, keep_v)) = variables_twin.kept n.in_variables in
      let (tables, is_t, keep_t) = tables_twin.kept n.in_tables in
      let agree = agreement variables is_v by_kind (distinct_written n.in_names) (short_variables variables is_v keep_v) (short_tables tables is_t keep_t) (short_written n.in_vertices) in
      let t = takes_numbered variables agree m.vertices (each_front m.vertices n.in_vertices) in
      let (vertices, is_x, keep_x) = (vertices_twin variables agree t.takes t.are t.parameters).kept n.in_vertices in
      let (watch, is_w, keep_w) = (watch_twin variables agree).kept n.in_watch in
      let counts = (counts_few variables tables vertices is_v is_t is_x).0 n.in_counts in
      let takes_are : t.takes ≡ map (λ (y : EventVertex). y.parameters) vertices = same_Some t.takes (map (λ (y : EventVertex). y.parameters) vertices) (sym t.are ∙ each_via (numbering.vertex (declared_by m)) (λ (y : EventVertex). y.parameters) (numbered_parameters (declared_by m)) (vertex_parameters (declared_by m)) m.vertices vertices is_x) in
      let watched = as_counted variables tables watch vertices (length m.vertices) (length (declared_by m).variables) (each_length (numbering.vertex (declared_by m)) m.vertices vertices is_x) (declared_count variables is_v) keep_w in (
        model_made variables tables watch vertices,
        made variables tables watch vertices is_v is_t is_w is_x,
        record {
          name = (short_name m.name).0 n.in_name;
          declared_once = subst (IsDistinct same_bytes) (sym (same_names variables tables watch vertices is_v is_t is_x)) (distinct_written n.in_names);
          variables = keep_v;
          few_variables = counts.0;
          tables = keep_t;
          few_tables = counts.1;
          watch = watched.0;
          watched_once = watched.1;
          vertices = subst (λ ts. AllByRecursion (KeepsVertex variables (length tables) ts) vertices) takes_are (subst (λ k. AllByRecursion (KeepsVertex variables k t.takes) vertices) (sym (each_length numbering.table m.tables tables is_t)) keep_x);
          few_vertices = counts.2;
        },
        by_kind,
      )
    where
      made : (variables : List Variable) (tables : List WeightTable) (watch : List Watched) (vertices : List EventVertex) → each_numbered numbering.variable m.variables ≡ Some variables → each_numbered numbering.table m.tables ≡ Some tables
          → written_or (each_numbered (numbering.watched (declared_by m))) [] m.watch ≡ Some watch → each_numbered (numbering.vertex (declared_by m)) m.vertices ≡ Some vertices → numbered m ≡ Some (model_made variables tables watch vertices)
      made variables tables watch vertices v t w x = rw (v, t, w, x) refl

  pub parts_unbroken : (g : EventGraph) → numbered m ≡ Some g → KeepsParts g → VariablesByKind m → faults_of_parts m ≡ []
  parts_unbroken g s keeps by_kind =
      let p = of_four model_made (each_numbered numbering.variable m.variables) (each_numbered numbering.table m.tables) (written_or (each_numbered (numbering.watched (declared_by m))) [] m.watch) (each_numbered (numbering.vertex (declared_by m)) m.vertices) g s in
      whole p.a p.b p.c p.d p.is_a p.is_b p.is_c p.is_d (subst KeepsParts (sym p.made) keeps)
    where
      whole : (variables : List Variable) (tables : List WeightTable) (watch : List Watched) (vertices : List EventVertex) → each_numbered numbering.variable m.variables ≡ Some variables → each_numbered numbering.table m.tables ≡ Some tables
          → written_or (each_numbered (numbering.watched (declared_by m))) [] m.watch ≡ Some watch → each_numbered (numbering.vertex (declared_by m)) m.vertices ≡ Some vertices → KeepsParts (model_made variables tables watch vertices) → faults_of_parts m ≡ []
      whole variables tables watch vertices is_v is_t is_w is_x k =
          let distinct = subst (IsDistinct same_bytes) (same_names variables tables watch vertices is_v is_t is_x) k.declared_once in
          let takes = map (λ (y : EventVertex). y.parameters) vertices in
          let agree = agreement variables is_v by_kind distinct (short_variables variables is_v k.variables) (short_tables tables is_t k.tables) (short_vertices vertices takes variables (length tables) is_x k.vertices) in
          let are = each_via (numbering.vertex (declared_by m)) (λ (y : EventVertex). y.parameters) (numbered_parameters (declared_by m)) (vertex_parameters (declared_by m)) m.vertices vertices is_x in
          let parameters : AllByRecursion (AreParameters variables) takes = every-images (KeepsVertex variables (length tables) takes) (AreParameters variables) (λ (y : EventVertex). y.parameters) (λ y q. q.parameters) vertices k.vertices in
          let x = (vertices_twin variables agree takes are parameters).unbroken vertices is_x (subst (λ j. AllByRecursion (KeepsVertex variables j takes) vertices) (each_length numbering.table m.tables tables is_t) k.vertices) in
          let w = (watch_twin variables agree).unbroken watch is_w (
            subst (λ i. AllByRecursion (IsWatchable (length variables) i) watch) (each_length (numbering.vertex (declared_by m)) m.vertices vertices is_x) k.watch,
            subst (λ i. IsDistinct nat_eq (map (watch_number i) watch)) (declared_count variables is_v) k.watched_once,
          ) in
          together (record {
            in_name = (short_name m.name).1 k.name;
            in_names = none_repeated distinct;
            in_counts = (counts_few variables tables vertices is_v is_t is_x).1 (k.few_variables, k.few_tables, k.few_vertices);
            in_variables = variables_twin.unbroken variables is_v (by_kind, k.variables);
            in_tables = tables_twin.unbroken tables is_t k.tables;
            in_watch = w;
            in_vertices = x;
          })

-- ---- with the rules that depend on the version

abbrev HasFewCells : EventGraph → Type 0
HasFewCells g = sum_by (λ (v : Variable). v.size) g.variables ≤ CELLS_MAX

module _ (m : WrittenModel) where
  version_kept : faults_of_parts m ++ version_faults m ≡ [] → (g : EventGraph) × (numbered m ≡ Some g) × KeepsParts g × VariablesByKind m × FitsVersion m.version g × HasFewCells g
  version_kept e =
      let (g, is, keeps, by_kind) = parts_kept m (left_empty (faults_of_parts m) (version_faults m) e) in
      let (fits, few) = (version_twin m g is keeps by_kind).0 (right_empty (faults_of_parts m) (version_faults m) e) in
      (g, is, keeps, by_kind, fits, few)

  version_unbroken : (g : EventGraph) → numbered m ≡ Some g → KeepsParts g → VariablesByKind m → FitsVersion m.version g → HasFewCells g → faults_of_parts m ++ version_faults m ≡ []
  version_unbroken g is keeps by_kind fits few = both_empty (faults_of_parts m) (version_faults m) (parts_unbroken m g is keeps by_kind) ((version_twin m g is keeps by_kind).1 (fits, few))

-- ---- acceptance

nothing_contained : (fs : List StaticFault) → ((f : StaticFault) → Contains fs f → ⊥) → fs ≡ []
nothing_contained [] h = refl
nothing_contained (f ∷ fs) h = absurd (h f (0, omega arith, refl))

pub empty_contains : (f : StaticFault) → Contains [] f → ⊥
empty_contains f (k, lt, at) = omega arith

-- nothing is too long, and no part is broken
pub none_of_parts : (m : WrittenModel) (limit : ℕ) (fs : List StaticFault) → or_too_long m limit fs ≡ [] → fs ≡ []
none_of_parts m limit [] e = refl
none_of_parts m limit (f ∷ fs) e = cc

module _ (m : WrittenModel) (g : EventGraph) (limit : ℕ) where
  -- the rule on the length of the canonical text
  not_too_long : (text : List ℕ) (at : ℕ) → model_too_long limit text at ≡ [] ↔ length text ≤ limit
  not_too_long text at = fault_where-none (nat_lt limit (length text)) rules.ModelTooLong at (not_above limit (length text))

  too_long_or_not : numbered m ≡ Some g → or_too_long m limit [] ≡ model_too_long limit (canonical g) m.end_at
  too_long_or_not e = by_number (numbered m) e
    where
      by_number : (o : Option EventGraph) → o ≡ Some g → elim o [ None ↦ [] | Some h ↦ model_too_long limit (canonical h) m.end_at ] ≡ model_too_long limit (canonical g) m.end_at
      by_number None e = cc
      by_number (Some h) e = ap (λ x. model_too_long limit (canonical x) m.end_at) (same_Some h g e)

  all_kept : or_too_long m limit (faults_of_parts m ++ version_faults m) ≡ [] → numbered m ≡ Some g → KeepsParts g × VariablesByKind m × FitsVersion m.version g × HasFewCells g × (length (canonical g) ≤ limit)
  all_kept e is =
      let none = none_of_parts m limit (faults_of_parts m ++ version_faults m) e in
      let (h, is_h, keeps, by_kind, fits, few) = version_kept m none in
      let same : h ≡ g = same_Some h g (sym is_h ∙ is) in
      (subst KeepsParts same keeps, by_kind, subst (FitsVersion m.version) same fits, subst HasFewCells same few, (not_too_long (canonical g) m.end_at).0 (sym (too_long_or_not is) ∙ sym (ap (or_too_long m limit) none) ∙ e))

  none_broken : numbered m ≡ Some g → KeepsParts g → VariablesByKind m → FitsVersion m.version g → HasFewCells g → length (canonical g) ≤ limit → or_too_long m limit (faults_of_parts m ++ version_faults m) ≡ []
  none_broken is keeps by_kind fits few h = ap (or_too_long m limit) (version_unbroken m g is keeps by_kind fits few) ∙ too_long_or_not is ∙ (not_too_long (canonical g) m.end_at).1 h

pub accepted_by_itself : (m : WrittenModel) (g : EventGraph) → Accepted m g ↔ (numbered m ≡ Some g) × KeepsStaticRules g × FitsVersion m.version g × VariablesByKind m
accepted_by_itself m g = (
  λ a. let (keeps, by_kind, fits, few, short) = all_kept m g TEXT_MAX (nothing_contained (model_faults m) (λ f. a.unbroken f.kind f.at)) a.numbers in (a.numbers, record { parts = keeps; few_cells = few; short = short }, fits, by_kind),
  λ (is, keeps, fits, by_kind). record {
    unbroken = λ kind at b. empty_contains (record { at = at; kind = kind }) (subst (λ fs. Contains fs (record { at = at; kind = kind })) (none_broken m g TEXT_MAX is keeps.parts by_kind fits keeps.few_cells keeps.short) b);
    numbers = is;
  },
)
