-- Changes and edges that are left where variables go: they keep the static rules, a text can write them, and their lines are
-- no longer.
use Rattle.std.proofs.Common.{◌≡◌, le_trans, ℕ, zero, suc, ◌<◌, ◌≤◌, Bool, true, false, cond, List, [], ◌∷◌, ◌++◌, map, length, slice_get, Some, Contains, refl, sym, ap, ap₂, subst, arith, ◌∙◌, length-append}
use Rattle.std.specs.Prelude.{codes}
use Rattle.std.specs.Option.{option_map_or}
use Rattle.std.specs.List.{AllByRecursion, AllZip, flat_map}
use Rattle.std.proofs.lemmas.List.{length-map}
use Rattle.model_core.specs.declared.model.Kind.{Kind}
use Rattle.model_core.specs.declared.model.Kind.TheVariants as kinds
use Rattle.model_core.specs.EventGraph.{EventGraph, EventVertex, EventEdge, EdgeKind, Schedule, Urgent, CancelNext, CancelEqual, CancelAll, StateChange, Set, Draw, Location, Expression}
use Rattle.model_core.specs.Run.Step.{vertex_at}
use Rattle.model_core.specs.Text.Canonical.{vertex_name, expression_texts, change_line, priority_text, timing_text, edge_word, edge_line}
use Rattle.model_core.specs.Text.Spellable.{IsNonEmpty, extent, SpellableKind, CarriesAsWritten, SpellableEdge, SpellableParts, kind_openings, edge_openings}
use Rattle.model_core.specs.Static.HasKind.{IsVariable, HasKind}
use Rattle.model_core.specs.Static.OwnRules.{IsLocationOfKind, CarriedFitKinds, KeepsChange, CarriesValues, KeepsTiming, KeepsEdge, parameters_of}
use Rattle.model_core.specs.Rules.MarkedPlaces.{rank, is_marked}
use Rattle.model_core.specs.Rules.Slice.{expression_renumbered, location_renumbered, items_where_marked, sliced_values, sliced_parameters, sliced_targets, set_or_nothing, sliced_change, sliced_kind, sliced_edge, sliced_vertex, of_marked_variables}
use Rattle.mark_laws.proofs.Marks.{Marked}
use Rattle.round_trip.proofs.MadeAgain.{than_change, than_edge, ChangeFrom, EdgeFrom}
use Rattle.var_slicing.proofs.LeftLists.{values-none}
use Rattle.var_slicing.proofs.ValuesLeft.{all-items_where_marked}
use Rattle.var_slicing.proofs.NeedsClosed.{ChangeNeeds, CarriedNeed, KindNeeds, EdgeNeeds}
use Rattle.var_slicing.proofs.QuietStores.{takes-parameters}
use Rattle.model_core.proofs.SomeOfAList.{some-texts, some-in_parentheses}
use Rattle.var_slicing.proofs.RenumberedTexts.{openings-renumbered, delay_openings-renumbered, condition_text-renumbered}
use Rattle.var_slicing.proofs.KeptBeside.{variables_of, targets-kept, TargetMarked, TargetsRead, ValuesRead, targets-marked, parameters-kept, parameters-marked, zip-kept, zip-mapped, set-reads, carried-reads}
use Rattle.model_core.proofs.NoLongerTexts.{NoLonger, no_longer-after, no_longer-before, no_longer-both, no_longer-same}
use Rattle.model_core.proofs.NotEmpty.{has_one-map}
use Rattle.var_slicing.proofs.PartsLeft.{all-declared, variable-of_left, kind-of_left, spellable-left, delay-keeps, delay-spellable, delay_text-left, source-keeps, source-spellable, source_text-left, takes-left, location_text-left, location-spellable, location_openings-left, target-texts, targets-spellable, target-openings, value-texts, values-spellable, value-openings, values_openings-left, values-given}
use Rattle.var_slicing.proofs.VersionLeft.{targets-few}

-- a `set` is left, or none where nothing of it stays
set-cases : (P : List StateChange → Type 0) (R : Location → Kind → Type 0) (S : Expression → Kind → Type 0) (ls : List Location) (es : List Expression) (ks : List Kind) → AllZip R ls ks → AllZip S es ks → P [] → (IsNonEmpty ls → IsNonEmpty es → P (Set ls es ∷ [])) → P (set_or_nothing ls es)
set-cases P R S [] [] ks taken given none one = none
set-cases P R S [] (e ∷ es) [] taken given none one = absurd given
set-cases P R S [] (e ∷ es) (k ∷ ks) taken given none one = absurd taken
set-cases P R S (l ∷ ls) [] [] taken given none one = absurd taken
set-cases P R S (l ∷ ls) [] (k ∷ ks) taken given none one = absurd given
set-cases P R S (l ∷ ls) (e ∷ es) ks taken given none one = one tt tt

one_line : {A : Type 0} (line : A → List ℕ) (x : A) (y : List ℕ) → NoLonger (line x) y → NoLonger (flat_map line (x ∷ [])) y
one_line line x y shorter = record { at_most = let e = shorter.at_most in omega (arith, length-append (line x) [], e) }

takes-left_at : (g : EventGraph) (marks : List Bool) (vs : List EventVertex) (k : ℕ) (ps : List ℕ) → slice_get (map (λ (v : EventVertex). v.parameters) vs) k ≡ Some ps → slice_get (map (λ (v : EventVertex). v.parameters) (map (sliced_vertex g marks) vs)) k ≡ Some (sliced_parameters marks ps)
takes-left_at g marks [] k ps e = cc
takes-left_at g marks (v ∷ vs) zero ps e = let same : v.parameters ≡ ps = cc in ap (λ ps. Some (sliced_parameters marks ps)) same
takes-left_at g marks (v ∷ vs) (suc k) ps e = takes-left_at g marks vs k ps e

name-left_at : (g : EventGraph) (marks : List Bool) (vs : List EventVertex) (k : ℕ) → option_map_or (λ (v : EventVertex). v.name) (slice_get (map (sliced_vertex g marks) vs) k) [] ≡ option_map_or (λ (v : EventVertex). v.name) (slice_get vs k) []
name-left_at g marks [] k = refl
name-left_at g marks (v ∷ vs) zero = refl
name-left_at g marks (v ∷ vs) (suc k) = name-left_at g marks vs k

module _ (g : EventGraph) (marks live : List Bool) where
  abbrev h : EventGraph
  h = of_marked_variables g marks

  abbrev f : ℕ → ℕ
  f = rank marks

  abbrev ren : Expression → Expression
  ren = expression_renumbered (rank marks)

  abbrev tables : ℕ
  tables = length g.tables

  abbrev Takes : Location → Kind → Type 0
  Takes = IsLocationOfKind g.variables tables (parameters_of g)

  abbrev TakesLeft : Location → Kind → Type 0
  TakesLeft = IsLocationOfKind h.variables tables (parameters_of h)

  abbrev Keeps : StateChange → Type 0
  Keeps = KeepsChange g.variables tables (parameters_of g)

  abbrev KeepsLeft : StateChange → Type 0
  KeepsLeft = KeepsChange h.variables tables (parameters_of h)

  pub vertex_name-left : (k : ℕ) → vertex_name h k ≡ vertex_name g k
  vertex_name-left k = name-left_at g marks g.vertices k

  -- ---- changes

  targets-taken : (ls : List Location) (ks : List Kind) → TargetsRead marks ls → AllZip Takes ls ks → AllZip TakesLeft (sliced_targets marks ls) (items_where_marked marks (variables_of ls) ks)
  targets-taken ls ks reads taken =
      let kept = items_where_marked marks (variables_of ls) ls in
      let kinds = items_where_marked marks (variables_of ls) ks in
      subst (λ (ls : List Location). AllZip TakesLeft ls kinds) (sym (targets-kept marks ls))
      (zip-mapped (TargetMarked marks) Takes TakesLeft (location_renumbered f) (takes-left g marks tables (parameters_of g) (parameters_of h)) kept kinds (targets-marked marks ls reads) (zip-kept Takes marks (variables_of ls) ls ks taken))

  -- what is known of the parts of a `set`
  record SetRead (targets : List Location) (rights : List Expression) : Type 0 where
    reads_targets : TargetsRead marks targets
    reads_values : ValuesRead marks (variables_of targets) rights
    kinds_left : List Kind
    taken : AllZip TakesLeft (sliced_targets marks targets) kinds_left
    given : AllZip (HasKind h.variables) (sliced_values marks (variables_of targets) rights) kinds_left

  set_read : (targets : List Location) (rights : List Expression) → Keeps (Set targets rights) → ChangeNeeds g marks live (Set targets rights) → SetRead targets rights
  set_read targets rights keep needs =
      let ks = keep.1.kinds in
      let reads = set-reads g marks Takes (HasKind g.variables) targets rights ks keep.1.taken keep.1.given needs in
      record {
        reads_targets = reads.0;
        reads_values = reads.1;
        kinds_left = items_where_marked marks (variables_of targets) ks;
        taken = targets-taken targets ks reads.0 keep.1.taken;
        given = values-given g marks (variables_of targets) rights ks reads.1 keep.1.given;
      }

  pub change-keeps : (c : StateChange) → Keeps c → ChangeNeeds g marks live c → AllByRecursion KeepsLeft (sliced_change marks c)
  change-keeps (Set targets rights) keep needs =
      let read = set_read targets rights keep needs in
      set-cases (AllByRecursion KeepsLeft) TakesLeft (HasKind h.variables) (sliced_targets marks targets) (sliced_values marks (variables_of targets) rights) read.kinds_left read.taken read.given tt
      (λ one too. ((le_trans (targets-few marks targets) keep.0, record { kinds = read.kinds_left; taken = read.taken; given = read.given }), tt))
  change-keeps (Draw target stream choice) keep needs = tested (is_marked marks target.variable) refl where
    tested : (b : Bool) → is_marked marks target.variable ≡ b → AllByRecursion KeepsLeft (cond b (Draw (location_renumbered f target) stream choice ∷ []) [])
    tested true marked = ((takes-left g marks tables (parameters_of g) (parameters_of h) target kinds.Range (marked, (needs.0 marked).0) keep.0, source-keeps g marks tables (parameters_of g) (parameters_of h) stream choice keep.1), tt)
    tested false unmarked = tt

  pub change-few : (c : StateChange) → length (sliced_change marks c) ≤ 1
  change-few (Set targets rights) = few (sliced_targets marks targets) (sliced_values marks (variables_of targets) rights) where
    few : (ls : List Location) (es : List Expression) → length (set_or_nothing ls es) ≤ 1
    few [] [] = omega arith
    few [] (e ∷ es) = omega arith
    few (l ∷ ls) es = omega arith
  change-few (Draw target stream choice) = tested (is_marked marks target.variable) where
    tested : (b : Bool) → length (cond b (Draw (location_renumbered f target) stream choice ∷ []) []) ≤ 1
    tested true = omega arith
    tested false = omega arith

  module _ (v : EventVertex) (is_vertex : Contains g.vertices v) where
    pub change-made : (c : StateChange) → Contains v.changes c → SpellableParts (extent g) c → Keeps c → ChangeNeeds g marks live c → AllByRecursion (ChangeFrom g (extent h)) (sliced_change marks c)
    change-made (Set targets rights) is_change parts keep needs =
        let read = set_read targets rights keep needs in
        let vs = variables_of targets in
        let locations = target-openings g marks targets in
        let values = value-openings g marks vs rights in
        set-cases (AllByRecursion (ChangeFrom g (extent h))) TakesLeft (HasKind h.variables) (sliced_targets marks targets) (sliced_values marks vs rights) read.kinds_left read.taken read.given tt
        (λ one too. (
          record {
            parts = (one, targets-spellable g marks targets read.reads_targets parts.1, too, values-spellable g marks vs rights read.reads_values parts.3);
            openings = than_change v (Set targets rights) is_vertex is_change (omega (arith, locations, values));
          },
          tt,
        ))
    change-made (Draw target stream choice) is_change parts keep needs = tested (is_marked marks target.variable) refl where
      tested : (b : Bool) → is_marked marks target.variable ≡ b → AllByRecursion (ChangeFrom g (extent h)) (cond b (Draw (location_renumbered f target) stream choice ∷ []) [])
      tested true marked =
          let same = location_openings-left g marks target in (
            record {
              parts = (location-spellable g marks target ((marked, (needs.0 marked).0), parts.0), source-spellable g marks stream choice parts.1);
              openings = than_change v (Draw target stream choice) is_vertex is_change (omega (arith, same));
            },
            tt,
          )
      tested false unmarked = tt

  pub change-line : (c : StateChange) → Keeps c × ChangeNeeds g marks live c → NoLonger (flat_map (change_line h) (sliced_change marks c)) (change_line g c)
  change-line (Set targets rights) (keep, needs) =
      let read = set_read targets rights keep needs in
      let vs = variables_of targets in
      let old = change_line g (Set targets rights) in
      set-cases (λ cs. NoLonger (flat_map (change_line h) cs) old) TakesLeft (HasKind h.variables) (sliced_targets marks targets) (sliced_values marks vs rights) read.kinds_left read.taken read.given (record { at_most = omega arith })
      (λ one too. one_line (change_line h) (Set (sliced_targets marks targets) (sliced_values marks vs rights)) old
      (no_longer-before (codes ";\n") (no_longer-both
      (no_longer-before (codes " := ") (no_longer-after (codes "  set ") (record { at_most = some-texts (target-texts g marks targets read.reads_targets) })))
      (record { at_most = some-texts (value-texts g marks vs rights read.reads_values) }))))
  change-line (Draw target stream choice) (keep, needs) = tested (is_marked marks target.variable) refl where
    tested : (b : Bool) → is_marked marks target.variable ≡ b → NoLonger (flat_map (change_line h) (cond b (Draw (location_renumbered f target) stream choice ∷ []) [])) (change_line g (Draw target stream choice))
    tested true marked = one_line (change_line h) (Draw (location_renumbered f target) stream choice) (change_line g (Draw target stream choice)) (no_longer-same _ _
        (ap₂ (λ (l s : List ℕ). codes "  draw " ++ l ++ s ++ codes ";\n") (location_text-left g marks target (marked, (needs.0 marked).0)) (source_text-left g marks stream choice)))
    tested false unmarked = record { at_most = omega arith }

  -- ---- edges

  abbrev takes_of : EventEdge → List ℕ
  takes_of e = (vertex_at g e.target).parameters

  abbrev IsParameterOf : ℕ → Kind → Type 0
  IsParameterOf v kind = IsVariable g.variables v false kind

  abbrev IsParameterLeft : ℕ → Kind → Type 0
  IsParameterLeft v kind = IsVariable h.variables v false kind

  parameters-taken : (vs : List ℕ) (ks : List Kind) → AllZip IsParameterOf vs ks → AllZip IsParameterLeft (sliced_parameters marks vs) (items_where_marked marks vs ks)
  parameters-taken vs ks taken =
      let kept = items_where_marked marks vs vs in
      let kinds = items_where_marked marks vs ks in
      subst (λ (ps : List ℕ). AllZip IsParameterLeft ps kinds) (sym (parameters-kept marks vs))
      (zip-mapped (Marked marks) IsParameterOf IsParameterLeft f (λ v kind marked is. variable-of_left g marks v false kind marked is) kept kinds (parameters-marked marks vs) (zip-kept IsParameterOf marks vs vs ks taken))

  abbrev Carries : EdgeKind → EventEdge → Type 0
  Carries kind e = CarriesValues g.variables tables (parameters_of g) kind (takes_of e) e.values

  -- what the edge carries, beside the parameters of its target
  pub edge-carries : (e : EventEdge) → KeepsEdge g.variables tables (parameters_of g) e → Carries e.kind e
  edge-carries e k = subst (λ ps. CarriesValues g.variables tables (parameters_of g) e.kind ps e.values) (sym (takes-parameters g e.target k.parameters k.target)) k.carries

  carried-read : (e : EventEdge) → CarriedFitKinds g.variables tables (parameters_of g) (takes_of e) e.values → CarriedNeed g marks e → ValuesRead marks (takes_of e) e.values
  carried-read e carried needs = carried-reads g marks IsParameterOf (HasKind g.variables) (takes_of e) e.values carried.kinds carried.taken carried.given needs

  nothing-read : (vs : List ℕ) (es : List Expression) → es ≡ [] → ValuesRead marks vs es
  nothing-read [] [] none = tt
  nothing-read [] (e ∷ es) none = cc
  nothing-read (v ∷ vs) [] none = tt
  nothing-read (v ∷ vs) (e ∷ es) none = cc

  nothing-left : (vs : List ℕ) (es : List Expression) → es ≡ [] → sliced_values marks vs es ≡ []
  nothing-left vs es none = ap (sliced_values marks vs) none ∙ values-none marks vs

  kind-read : (e : EventEdge) (kind : EdgeKind) → Carries kind e → KindNeeds g marks e kind → ValuesRead marks (takes_of e) e.values
  kind-read e (Schedule delay priority) carries needs = carried-read e carries needs.1
  kind-read e Urgent carries needs = carried-read e carries needs
  kind-read e CancelNext carries needs = nothing-read (takes_of e) e.values carries
  kind-read e CancelEqual carries needs = carried-read e carries needs.1
  kind-read e CancelAll carries needs = nothing-read (takes_of e) e.values carries

  carried-keeps : (e : EventEdge) → CarriedFitKinds g.variables tables (parameters_of g) (takes_of e) e.values → CarriedNeed g marks e → CarriedFitKinds h.variables tables (parameters_of h) (sliced_parameters marks (takes_of e)) (sliced_values marks (takes_of e) e.values)
  carried-keeps e carried needs = record {
    kinds = items_where_marked marks (takes_of e) carried.kinds;
    taken = parameters-taken (takes_of e) carried.kinds carried.taken;
    given = values-given g marks (takes_of e) e.values carried.kinds (carried-read e carried needs) carried.given;
  }

  kind-carries : (e : EventEdge) (kind : EdgeKind) → Carries kind e → KindNeeds g marks e kind → CarriesValues h.variables tables (parameters_of h) (sliced_kind marks kind) (sliced_parameters marks (takes_of e)) (sliced_values marks (takes_of e) e.values)
  kind-carries e (Schedule delay priority) carries needs = carried-keeps e carries needs.1
  kind-carries e Urgent carries needs = carried-keeps e carries needs
  kind-carries e CancelNext carries needs = nothing-left (takes_of e) e.values carries
  kind-carries e CancelEqual carries needs = carried-keeps e carries needs.1
  kind-carries e CancelAll carries needs = nothing-left (takes_of e) e.values carries

  timing-keeps : (e : EventEdge) (kind : EdgeKind) → KeepsTiming g.variables tables (parameters_of g) kind → KindNeeds g marks e kind → KeepsTiming h.variables tables (parameters_of h) (sliced_kind marks kind)
  timing-keeps e (Schedule delay priority) k needs = (delay-keeps g marks tables (parameters_of g) (parameters_of h) delay needs.0 k.0, k.1, k.2)
  timing-keeps e Urgent k needs = tt
  timing-keeps e CancelNext k needs = tt
  timing-keeps e CancelEqual k needs = tt
  timing-keeps e CancelAll k needs = tt

  pub edge-keeps : (e : EventEdge) → KeepsEdge g.variables tables (parameters_of g) e → EdgeNeeds g marks e → KeepsEdge h.variables tables (parameters_of h) (sliced_edge g marks e)
  edge-keeps e k needs = record {
    parameters = sliced_parameters marks (takes_of e);
    target = takes-left_at g marks g.vertices e.target (takes_of e) (k.target ∙ ap (λ ps. Some ps) (sym (takes-parameters g e.target k.parameters k.target)));
    carries = kind-carries e e.kind (edge-carries e k) needs.1;
    timing = timing-keeps e e.kind k.timing needs.1;
    condition = kind-of_left g marks e.condition kinds.Truth needs.0 k.condition;
  }

  -- ---- edges in a text

  kind-written : (e : EventEdge) (kind : EdgeKind) → CarriesAsWritten kind e.values → KindNeeds g marks e kind → CarriesAsWritten (sliced_kind marks kind) (sliced_values marks (takes_of e) e.values)
  kind-written e (Schedule delay priority) written needs = tt
  kind-written e Urgent written needs = tt
  kind-written e CancelNext written needs = nothing-left (takes_of e) e.values written
  kind-written e CancelEqual written needs = subst IsNonEmpty (ap (map ren) (sym (all-items_where_marked marks (takes_of e) e.values needs.0))) (has_one-map ren e.values written)
  kind-written e CancelAll written needs = nothing-left (takes_of e) e.values written

  kind-spellable : (e : EventEdge) (kind : EdgeKind) → SpellableKind (extent g) kind → KindNeeds g marks e kind → SpellableKind (extent h) (sliced_kind marks kind)
  kind-spellable e (Schedule delay priority) s needs = (delay-spellable g marks delay needs.0 s.0, s.1)
  kind-spellable e Urgent s needs = tt
  kind-spellable e CancelNext s needs = tt
  kind-spellable e CancelEqual s needs = tt
  kind-spellable e CancelAll s needs = tt

  kind_openings-left : (kind : EdgeKind) → kind_openings (sliced_kind marks kind) ≡ kind_openings kind
  kind_openings-left (Schedule delay priority) = delay_openings-renumbered f delay
  kind_openings-left Urgent = refl
  kind_openings-left CancelNext = refl
  kind_openings-left CancelEqual = refl
  kind_openings-left CancelAll = refl

  edge_openings-left : (e : EventEdge) → edge_openings (sliced_edge g marks e) ≤ edge_openings e
  edge_openings-left e =
      let values = values_openings-left g marks (takes_of e) e.values in
      let kind = kind_openings-left e.kind in
      let condition = openings-renumbered f e.condition in
      omega (arith, values, kind, condition)

  pub edge-made : (v : EventVertex) → Contains g.vertices v → (e : EventEdge) → Contains v.edges e → SpellableEdge (extent g) e → KeepsEdge g.variables tables (parameters_of g) e → EdgeNeeds g marks e → EdgeFrom g (extent h) (sliced_edge g marks e)
  edge-made v is_vertex e is_edge s k needs = record {
    target = subst (λ n. e.target < n) (sym (length-map g.vertices (sliced_vertex g marks))) s.target;
    values = values-spellable g marks (takes_of e) e.values (kind-read e e.kind (edge-carries e k) needs.1) s.values;
    carries = kind-written e e.kind s.carries needs.1;
    kind = kind-spellable e e.kind s.kind needs.1;
    condition = spellable-left g marks e.condition needs.0 s.condition;
    openings = than_edge v e is_vertex is_edge (edge_openings-left e);
  }

  -- ---- lines of edges

  word-left : (kind : EdgeKind) → edge_word (sliced_kind marks kind) ≡ edge_word kind
  word-left (Schedule delay priority) = refl
  word-left Urgent = refl
  word-left CancelNext = refl
  word-left CancelEqual = refl
  word-left CancelAll = refl

  timing-left : (e : EventEdge) (kind : EdgeKind) → KindNeeds g marks e kind → timing_text h (sliced_kind marks kind) ≡ timing_text g kind
  timing-left e (Schedule delay priority) needs = ap (λ t. t ++ priority_text priority) (delay_text-left g marks delay needs.0)
  timing-left e Urgent needs = refl
  timing-left e CancelNext needs = refl
  timing-left e CancelEqual needs = refl
  timing-left e CancelAll needs = refl

  pub edge-line : (e : EventEdge) → KeepsEdge g.variables tables (parameters_of g) e × EdgeNeeds g marks e → NoLonger (edge_line h (sliced_edge g marks e)) (edge_line g e)
  edge-line e (k, needs) =
      no_longer-before (codes ";\n")
      (no_longer-both
      (no_longer-both
      (no_longer-both
      (no_longer-same _ _ (ap₂ (λ (w n : List ℕ). w ++ n) (word-left e.kind) (vertex_name-left e.target)))
      (record { at_most = some-in_parentheses (expression_texts h (sliced_values marks (takes_of e) e.values)) (expression_texts g e.values) (value-texts g marks (takes_of e) e.values (kind-read e e.kind (edge-carries e k) needs.1)) }))
      (no_longer-same _ _ (timing-left e e.kind needs.1)))
      (no_longer-same _ _ (condition_text-renumbered g h f e.condition (all-declared g marks _ needs.0))))
