-- What the conditions of a merge say of the states of a model that keeps its rules.
use Rattle.std.proofs.Common.{◌≡◌, ℕ, zero, suc, ◌+◌, ◌<◌, ◌≤◌, ◌==◌, nat_lt, Bool, true, false, not, ◌&&◌, ◌||◌, cond, List, [], ◌∷◌, ◌++◌, map, length, slice_get, Some, None, refl, sym, ◌∙◌, ap, subst, arith}
use Rattle.std.proofs.lemmas.Bool.Decides.{nat_tests}
use Rattle.std.specs.List.{AllByRecursion, AllZip, list_any, list_all, position_from}
use Rattle.std.proofs.lemmas.List.{length-map}
use Rattle.sig_base.specs.declared.limits.TheConstants.{PARAMETERS_MAX}
use Rattle.sig_base.proofs.Lists.{slice_index_or-all}
use Rattle.model_core.specs.declared.model.Kind.{Kind}
use Rattle.model_core.specs.EventGraph.{EventGraph, Variable, EventVertex, EventEdge, EdgeKind, Schedule, Urgent, CancelNext, CancelEqual, CancelAll, Expression, scalar_location, has_drawn_delay}
use Rattle.model_core.specs.Run.Step.{vertex_at, no_vertex}
use Rattle.model_core.specs.Static.HasKind.{IsVariable, HasKind}
use Rattle.model_core.specs.Static.OwnRules.{IsLocationOfKind, CarriedFitKinds, KeepsEdge, KeepsChange, KeepsVertex, KeepsParts, parameters_of}
use Rattle.model_core.specs.Rules.BoundsOfParts.{quiet_edge}
use Rattle.model_core.specs.Rules.Conditions.{first_failed}
use Rattle.model_core.specs.Rules.Uses.{vertex_writes}
use Rattle.model_core.specs.Rules.UrgentEdges.{is_urgent_kind, single_urgent}
use Rattle.model_core.specs.Rules.Merge.{merge_conditions, cancels, is_cancelling, is_watched_vertex, reads_none_of, happens_unseen, set_parameters, values_at_once, other_edges, is_within_limits, merged}
use Rattle.model_core.proofs.BothTrue.{and_first, and_second}
use Rattle.model_core.proofs.AllHold.{every-holds}
use Rattle.model_core.proofs.Images.{image-there}
use Rattle.static_laws.proofs.StaticTwins.DeclaredNames.{every_item}
use Rattle.bound_laws.proofs.Soundness.NumberRows.{not_true}
use Rattle.model_core.proofs.EachOne.{every-map, every-front, every-after, every-joined, either_false}
use Rattle.vertex_laws.proofs.ReadElement.{read_at}
use Rattle.merge_rules.proofs.OneStepForTwo.EdgesAside.{Aside, urgent_edge}
use Rattle.merge_rules.proofs.SingleUrgentModels.UrgentEvents.{PriorityOk}
use Rattle.merge_rules.proofs.SingleUrgentModels.SingleUrgent.{edges_keep}
use Rattle.merge_rules.proofs.SingleUrgentModels.PlainEdges.{PlainEdge, plain_edge_of}

-- ---- the conditions

-- what the eight conditions say
pub record Mergeable (g : EventGraph) (first second : ℕ) : Type 0 where
  pub exists : nat_lt first (length g.vertices) ≡ true
  pub target_exists : nat_lt second (length g.vertices) ≡ true
  pub edge : PlainEdge (vertex_at g first) second
  pub single : single_urgent g ≡ true
  pub target_unwatched : is_watched_vertex g second ≡ false
  pub uncancelled : list_any (cancels second) (vertex_at g first).edges ≡ false
  pub others : list_all (λ e. quiet_edge g e && reads_none_of (vertex_writes (vertex_at g second)) e && not (has_drawn_delay e)) (other_edges (vertex_at g first)) ≡ true
  pub unseen : (not (is_watched_vertex g first) || happens_unseen g (vertex_at g second) (values_at_once (vertex_at g first))) ≡ true
  pub within : is_within_limits (merged g first second) first ≡ true

pub conditions_hold : (g : EventGraph) (first second : ℕ) → first_failed (merge_conditions g first second) ≡ None → Mergeable g first second
conditions_hold g first second none =
    let all = every-holds (merge_conditions g first second) none in
    let two = and_first (nat_lt first (length g.vertices) && nat_lt second (length g.vertices) && not (first == second)) _ all.0 in
    let one = and_first (nat_lt first (length g.vertices) && nat_lt second (length g.vertices)) _ two in
    let later = all.1.1 in
    record {
      exists = and_first (nat_lt first (length g.vertices)) _ one;
      target_exists = and_second (nat_lt first (length g.vertices)) _ one;
      edge = plain_edge_of (vertex_at g first) second (and_second (nat_lt first (length g.vertices) && nat_lt second (length g.vertices) && not (first == second)) _ all.0);
      single = later.0;
      target_unwatched = not_true _ later.1.0;
      uncancelled = not_true _ later.1.1.0;
      others = later.1.1.1.0;
      unseen = later.1.1.1.1.0;
      within = later.1.1.1.1.1.0;
    }

-- ---- edges that leave the second event alone

pub aside_of : (second target : ℕ) (kind : EdgeKind) → PriorityOk kind → is_urgent_kind kind ≡ false → (is_cancelling kind && (target == second)) ≡ false → Aside second target kind
aside_of second target (Schedule delay priority) some calm apart = some
aside_of second target Urgent some calm apart = cc
aside_of second target CancelNext some calm apart = grind (arith, nat_tests)
aside_of second target CancelEqual some calm apart = grind (arith, nat_tests)
aside_of second target CancelAll some calm apart = grind (arith, nat_tests)

-- ---- lists

pub without_one : {A : Type 0} (P : A → Type 0) (before : List A) (x : A) (after : List A) → AllByRecursion P (before ++ x ∷ after) → AllByRecursion P (before ++ after)
without_one P before x after all = every-joined P before after (every-front P before (x ∷ after) all) (every-after P before (x ∷ after) all).1

pub the_one : {A : Type 0} (P : A → Type 0) (before : List A) (x : A) (after : List A) → AllByRecursion P (before ++ x ∷ after) → P x
the_one P before x after all = (every-after P before (x ∷ after) all).0

lower : (j k : ℕ) → nat_lt (suc j) (suc k) ≡ true → nat_lt j k ≡ true
lower j k e = grind (arith, nat_tests)

pub is_below : (k n : ℕ) → nat_lt k n ≡ true → k < n
is_below k n e = grind (arith, nat_tests)

pub first_there : (g : EventGraph) (first second : ℕ) → first_failed (merge_conditions g first second) ≡ None → first < length g.vertices
first_there g first second none = is_below first (length g.vertices) (conditions_hold g first second none).exists

pub there_is : {A : Type 0} (xs : List A) (k : ℕ) → nat_lt k (length xs) ≡ true → (x : A) × (slice_get xs k ≡ Some x)
there_is [] k e = let below = is_below k 0 e in absurd (omega (arith, below))
there_is (x ∷ xs) zero e = (x, refl)
there_is (x ∷ xs) (suc k) e = there_is xs k (lower k (length xs) e)

pub none_found : {A : Type 0} (test : A → Bool) (xs : List A) (from : ℕ) → list_any test xs ≡ false → position_from test from xs ≡ None
none_found test [] from e = refl
none_found test (x ∷ xs) from e =
    let (here, later) = either_false (test x) (list_any test xs) e in
    ap (λ b. cond b (Some from) (position_from test (from + 1) xs)) here ∙ none_found test xs (from + 1) later

-- ---- the `set` of parameters keeps the rules

module _ (variables : List Variable) (tables : ℕ) (takes : List (List ℕ)) where
  set_taken : (ps : List ℕ) (ks : List Kind) → AllZip (λ v kind. IsVariable variables v false kind) ps ks → AllZip (IsLocationOfKind variables tables takes) (map scalar_location ps) ks
  set_taken [] [] all = all
  set_taken [] (k ∷ ks) all = absurd all
  set_taken (p ∷ ps) [] all = absurd all
  set_taken (p ∷ ps) (k ∷ ks) (here, all) = (here, set_taken ps ks all)

  pub set_keeps : (ps : List ℕ) (values : List Expression) → length ps ≤ PARAMETERS_MAX → CarriedFitKinds variables tables takes ps values → AllByRecursion (KeepsChange variables tables takes) (set_parameters ps values)
  set_keeps [] values few carried = tt
  set_keeps (p ∷ ps) values few carried =
      let same = length-map (p ∷ ps) scalar_location in
      ((omega (arith, same, few), record { kinds = carried.kinds; taken = set_taken (p ∷ ps) carried.kinds carried.taken; given = carried.given }), tt)

  none_given : (values : List Expression) (ks : List Kind) → AllZip (λ v kind. IsVariable variables v false kind) [] ks → AllZip (HasKind variables) values ks → values ≡ []
  none_given [] ks taken given = refl
  none_given (v ∷ vs) [] taken given = absurd given
  none_given (v ∷ vs) (k ∷ ks) taken given = absurd taken

  pub carries_none : (ps : List ℕ) (values : List Expression) → CarriedFitKinds variables tables takes ps values → ps ≡ [] → values ≡ []
  carries_none [] values carried e = none_given values carried.kinds carried.taken carried.given
  carries_none (p ∷ ps) values carried e = cc

-- ---- the vertices keep the rules

-- each vertex that is there keeps the rules
pub vertex_keeps : (g : EventGraph) → KeepsParts g → (k : ℕ) → nat_lt k (length g.vertices) ≡ true → KeepsVertex g.variables (length g.tables) (parameters_of g) (vertex_at g k)
vertex_keeps g keeps k below =
    let (v, there) = there_is g.vertices k below in
    subst (KeepsVertex g.variables (length g.tables) (parameters_of g)) (sym (read_at g.vertices k no_vertex v there)) (every_item (KeepsVertex g.variables (length g.tables) (parameters_of g)) g.vertices k v keeps.vertices there)

-- the second vertex, and the edges and changes of the result
module _ (g : EventGraph) (keeps : KeepsParts g) (first second : ℕ) (h : Mergeable g first second) where
  abbrev b : EventVertex
  b = vertex_at g second

  abbrev rest : List EventEdge
  rest = h.edge.before ++ h.edge.after

  abbrev at_once : EventEdge
  at_once = urgent_edge second h.edge.values

  abbrev Keeps : EventEdge → Type 0
  Keeps e = KeepsEdge g.variables (length g.tables) (parameters_of g) e

  all_keep : AllByRecursion Keeps (h.edge.before ++ at_once ∷ h.edge.after)
  all_keep = subst (AllByRecursion Keeps) h.edge.whole (edges_keep g keeps first)

  pub rest_keep : AllByRecursion Keeps rest
  rest_keep = without_one Keeps h.edge.before at_once h.edge.after all_keep

  pub edge_keeps_rules : Keeps at_once
  edge_keeps_rules = the_one Keeps h.edge.before at_once h.edge.after all_keep

  pub parameters_are : b.parameters ≡ edge_keeps_rules.parameters
  parameters_are = image-there (λ (v : EventVertex). v.parameters) g.vertices second no_vertex edge_keeps_rules.parameters edge_keeps_rules.target

  pub carried : CarriedFitKinds g.variables (length g.tables) (parameters_of g) b.parameters h.edge.values
  carried = subst (λ ps. CarriedFitKinds g.variables (length g.tables) (parameters_of g) ps h.edge.values) (sym parameters_are) edge_keeps_rules.carries

  pub few_parameters : length b.parameters ≤ PARAMETERS_MAX
  few_parameters = slice_index_or-all (λ (v : EventVertex). length v.parameters ≤ PARAMETERS_MAX) g.vertices no_vertex second (every-map (KeepsVertex g.variables (length g.tables) (parameters_of g)) _ (λ v keep. keep.few_parameters) g.vertices keeps.vertices) (omega arith)

  pub changes_keep : AllByRecursion (KeepsChange g.variables (length g.tables) (parameters_of g)) b.changes
  changes_keep = slice_index_or-all (λ (v : EventVertex). AllByRecursion (KeepsChange g.variables (length g.tables) (parameters_of g)) v.changes) g.vertices no_vertex second (every-map (KeepsVertex g.variables (length g.tables) (parameters_of g)) _ (λ v keep. keep.changes) g.vertices keeps.vertices) tt

  pub set_keeps_rules : AllByRecursion (KeepsChange g.variables (length g.tables) (parameters_of g)) (set_parameters b.parameters h.edge.values)
  set_keeps_rules = set_keeps g.variables (length g.tables) (parameters_of g) b.parameters h.edge.values few_parameters carried

  pub values_none : b.parameters ≡ [] → h.edge.values ≡ []
  values_none = carries_none g.variables (length g.tables) (parameters_of g) b.parameters h.edge.values carried
