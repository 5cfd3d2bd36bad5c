-- One sweep of a rule makes the applications that the strategy makes, each time beginning again from the first vertex.
use Rattle.std.proofs.Common.{◌≡◌, ℕ, ◌+◌, Bool, true, false, cond, add-one, List, [], ◌∷◌, ◌++◌, map, length, Option, Some, None, is_some, refl, sym, ap, ap₂, ◌∙◌, subst, append_assoc, length-append, arith}
use Rattle.std.specs.Prelude.{slice_get}
use Rattle.std.specs.List.{IsDistinct, AllByRecursion, flat_map}
use Rattle.std.specs.Option.{option_map, option_map_or, option_and_then, option_or}
use Rattle.std.proofs.lemmas.Bool.{and_parts}
use lib.Pointwise.{bytes_decides}
use Rattle.sig_base.proofs.Lists.{get-after, remove-after}
use Rattle.model_core.specs.Text.Lexing.{same_bytes}
use Rattle.model_core.specs.Text.Canonical.{vertex_name}
use Rattle.model_core.specs.EventGraph.{EventEdge, EventVertex, EventGraph}
use Rattle.model_core.specs.Rules.Conditions.{first_failed}
use Rattle.model_core.specs.Rules.PlacedEdges.{edge_at, with_place, first_edge}
use Rattle.model_core.specs.Rules.Prune.{has_refuted_condition, prune_conditions, without_edge, pruned}
use Rattle.model_core.specs.Rules.Settle.{is_conditional, has_proved_condition, settle_conditions, with_true_condition, with_settled, settled, can_be_settled, first_settle}
use Rattle.model_core.specs.Rules.Reduction.{RuleApplication, Prune, Settle, place_of_vertex, from_zero, edge_named, unless_failed, applied, at_edge, first_rule}
use Rattle.run_laws.proofs.EdgesAlike.{with_vertices}
use Rattle.model_core.proofs.EachOne.{every-joined, every-front, every-after}
use Rattle.model_core.proofs.NoEdgePasses.{NoneOf, NoneIn, first_edge-none}
use Rattle.edge_pruning.specs.declared.finding.EdgeRule.{EdgeRule}
use Rattle.edge_pruning.specs.declared.finding.EdgeRule.TheVariants as rules
use Rattle.edge_pruning.specs.EdgeRules.{edge_test}
use Rattle.reduction_cert.specs.EdgeApplications.{application_by}
use Rattle.reducer.specs.Inner.Sweep.{edges_instead, count_instead, left_by_sweep, swept_vertex, applied_where, applied_after, applied_to_all}
use Rattle.reducer.proofs.FirstEdge.{first_edge-after}
use Rattle.reducer.proofs.FirstRules.{AreFirst, are_first-append}
use Rattle.reducer.proofs.FirstLaterRule.{later_rule}

abbrev pub with_edges : EventVertex → List EventEdge → EventVertex
with_edges v es = record v { edges = es }

abbrev pub name_of : EventVertex → List ℕ
name_of v = v.name

-- ---- the vertex after a front is found by its name

-- no vertex of the front has this name
abbrev pub NotNamed : List ℕ → List EventVertex → Type 0
NotNamed name front = AllByRecursion (λ (v : EventVertex). same_bytes v.name name ≡ false) front

pub place_of_vertex-after : (front : List EventVertex) (v : EventVertex) (later : List EventVertex) → NotNamed v.name front → place_of_vertex v.name (front ++ v ∷ later) ≡ Some (length front)
place_of_vertex-after [] v later h = ap (λ b. cond b (Some 0) (option_map (λ k. k + 1) (place_of_vertex v.name later))) ((bytes_decides v.name v.name).1 refl)
place_of_vertex-after (w ∷ front) v later h =
    ap (λ b. cond b (Some 0) (option_map (λ k. k + 1) (place_of_vertex v.name (front ++ v ∷ later)))) h.0
    ∙ ap (option_map (λ k. k + 1)) (place_of_vertex-after front v later h.1) ∙ ap Some (omega arith)

first_named : (name : List ℕ) (front : List EventVertex) (v : EventVertex) (later : List EventVertex) → AllByRecursion (λ y. same_bytes name y ≡ false) (map name_of (front ++ v ∷ later)) → same_bytes name v.name ≡ false
first_named name [] v later h = h.0
first_named name (w ∷ front) v later h = first_named name front v later h.1

pub not_named : (front : List EventVertex) (v : EventVertex) (later : List EventVertex) → IsDistinct same_bytes (map name_of (front ++ v ∷ later)) → NotNamed v.name front
unfolding IsDistinct
not_named [] v later h = tt
not_named (w ∷ front) v later h = (first_named w.name front v later h.0, not_named front v later h.1)

with_place-after : {A : Type 0} (f : A → A) (front : List A) (x : A) (later : List A) → with_place f (length front) (front ++ x ∷ later) ≡ front ++ f x ∷ later
with_place-after f [] x later = refl
with_place-after f (w ∷ front) x later = ap (λ xs. w ∷ xs) (with_place-after f front x later)

-- ---- what a rule asks of edges, so that no rule before it applies

abbrev pub IsReady : EdgeRule → EventGraph → EventEdge → Type 0
IsReady rules.Prune g e = Unit {0}
IsReady rules.Settle g e = has_refuted_condition g e ≡ false

abbrev pub AreReady : EdgeRule → EventGraph → List EventVertex → Type 0
AreReady rule g vs = AllByRecursion (λ (v : EventVertex). AllByRecursion (IsReady rule g) v.edges) vs

edges_instead-ready : (rule : EdgeRule) (g : EventGraph) (e : EventEdge) → AllByRecursion (IsReady rule g) (edges_instead rule e)
edges_instead-ready rules.Prune g e = tt
edges_instead-ready rules.Settle g e = (refl, tt)

edges_instead-none : (rule : EdgeRule) (g : EventGraph) (e : EventEdge) → NoneOf (edge_test rule g) (edges_instead rule e)
edges_instead-none rules.Prune g e = tt
edges_instead-none rules.Settle g e = (refl, tt)

edges_instead-length : (rule : EdgeRule) (e : EventEdge) → length (edges_instead rule e) ≡ count_instead rule
edges_instead-length rules.Prune e = refl
edges_instead-length rules.Settle e = refl

-- ---- one application

is_first : (rule : EdgeRule) (g : EventGraph) (vs : List EventVertex) (vertex edge : ℕ) → AreReady rule g vs → first_edge (edge_test rule g) 0 vs ≡ Some (vertex, edge) → first_rule (with_vertices g vs) ≡ Some (application_by rule (vertex_name (with_vertices g vs) vertex) (edge + 1))
is_first rules.Prune g vs vertex edge ready there =
    let h = with_vertices g vs in
    ap (λ (o : Option (ℕ × ℕ)). option_or (at_edge h Prune o) (option_or (at_edge h Settle (first_settle h)) (later_rule h))) there
is_first rules.Settle g vs vertex edge ready there =
    let h = with_vertices g vs in
    ap (λ (o : Option (ℕ × ℕ)). option_or (at_edge h Prune o) (option_or (at_edge h Settle (first_settle h)) (later_rule h))) (first_edge-none (has_refuted_condition g) 0 vs ready)
    ∙ ap (λ (o : Option (ℕ × ℕ)). option_or (at_edge h Settle o) (later_rule h)) there

module _ (g : EventGraph) (front : List EventVertex) (v : EventVertex) (later : List EventVertex) (unnamed : NotNamed v.name front) where
  -- the graph whose vertex after the front has these edges
  abbrev at_edges : List EventEdge → EventGraph
  at_edges es = with_vertices g (front ++ with_edges v es ∷ later)

  module _ (kept : List EventEdge) (e : EventEdge) (es : List EventEdge) where
    abbrev h : EventGraph
    h = at_edges (kept ++ e ∷ es)

    abbrev w : EventVertex
    w = with_edges v (kept ++ e ∷ es)

    named : edge_named h v.name (length kept + 1) ≡ Some (length front, length kept)
    named =
        let number : from_zero (length kept + 1) ≡ Some (length kept) = rw add-one refl in
        ap (option_and_then (λ vertex. option_map (λ edge. (vertex, edge)) (from_zero (length kept + 1)))) (place_of_vertex-after front w later unnamed) ∙ ap (option_map (λ edge. (length front, edge))) number

    edge_there : edge_at h (length front) (length kept) ≡ Some e
    edge_there = ap (option_and_then (λ (x : EventVertex). slice_get x.edges (length kept))) (get-after front w later) ∙ get-after kept e es

    name_there : vertex_name h (length front) ≡ v.name
    name_there = ap (λ (o : Option EventVertex). option_map_or name_of o []) (get-after front w later)

    prune_holds : has_refuted_condition g e ≡ true → first_failed (prune_conditions h (length front) (length kept)) ≡ None
    prune_holds passes = ap (λ (o : Option EventEdge). first_failed (is_some o ∷ option_map_or (has_refuted_condition h) o false ∷ [])) edge_there ∙ ap (λ b. first_failed (true ∷ b ∷ [])) passes

    prune_leaves : pruned h (length front) (length kept) ≡ at_edges (kept ++ es)
    prune_leaves = ap (with_vertices g) (with_place-after (without_edge (length kept)) front w later ∙ ap (λ (x : List EventEdge). front ++ with_edges v x ∷ later) (remove-after kept e es))

    settle_holds : can_be_settled g e ≡ true → first_failed (settle_conditions h (length front) (length kept)) ≡ None
    settle_holds passes =
        let both = and_parts (is_conditional e) (has_proved_condition g e) passes in
        ap (λ (o : Option EventEdge). first_failed (is_some o ∷ option_map_or is_conditional o false ∷ option_map_or (has_proved_condition h) o false ∷ [])) edge_there ∙ ap₂ (λ a b. first_failed (true ∷ a ∷ b ∷ [])) both.0 both.1

    settle_leaves : settled h (length front) (length kept) ≡ at_edges (kept ++ with_true_condition e ∷ es)
    settle_leaves = ap (with_vertices g) (with_place-after (with_settled (length kept)) front w later ∙ ap (λ (x : List EventEdge). front ++ with_edges v x ∷ later) (with_place-after with_true_condition kept e es))

    it_applies : (rule : EdgeRule) → edge_test rule g e ≡ true → applied h (application_by rule v.name (length kept + 1)) ≡ Some (at_edges (kept ++ (edges_instead rule e ++ es)))
    it_applies rules.Prune passes =
        ap (λ (o : Option (ℕ × ℕ)). unless_failed (option_map_or (λ (vertex, edge). first_failed (prune_conditions h vertex edge)) o (Some 1)) (option_map_or (λ (vertex, edge). pruned h vertex edge) o h)) named
        ∙ ap₂ unless_failed (prune_holds passes) prune_leaves
    it_applies rules.Settle passes =
        ap (λ (o : Option (ℕ × ℕ)). unless_failed (option_map_or (λ (vertex, edge). first_failed (settle_conditions h vertex edge)) o (Some 1)) (option_map_or (λ (vertex, edge). settled h vertex edge) o h)) named
        ∙ ap₂ unless_failed (settle_holds passes) settle_leaves

  -- ---- the edges of one vertex

  module _ (rule : EdgeRule) (clean : NoneIn (edge_test rule g) front) (front_ready : AreReady rule g front) (later_ready : AreReady rule g later) where
    abbrev test : EventEdge → Bool
    test = edge_test rule g

    all_ready : (es : List EventEdge) → AllByRecursion (IsReady rule g) es → AreReady rule g (front ++ with_edges v es ∷ later)
    all_ready es ready = every-joined (λ (v : EventVertex). AllByRecursion (IsReady rule g) v.edges) front (with_edges v es ∷ later) front_ready (ready, later_ready)

    first_here : (kept : List EventEdge) (e : EventEdge) (es : List EventEdge) → NoneOf test kept → AllByRecursion (IsReady rule g) (kept ++ e ∷ es) → test e ≡ true → first_rule (at_edges (kept ++ e ∷ es)) ≡ Some (application_by rule v.name (length kept + 1))
    first_here kept e es none ready passes =
        let vs = front ++ with_edges v (kept ++ e ∷ es) ∷ later in
        let place : first_edge test 0 vs ≡ Some (length front, length kept) =
        first_edge-after test 0 front (with_edges v (kept ++ e ∷ es)) later kept e es clean none refl passes ∙ ap (λ i. Some (i, length kept)) (let same : 0 + length front ≡ length front = omega arith in same) in
        is_first rule g vs (length front) (length kept) (all_ready (kept ++ e ∷ es) ready) place ∙ ap (λ (name : List ℕ). Some (application_by rule name (length kept + 1))) (name_there kept e es)

    -- what the edges after those that stay are to give
    abbrev Sweeps : List EventEdge → List EventEdge → List RuleApplication → List EventEdge → Type 0
    Sweeps kept es applications left = AreFirst (at_edges (kept ++ es)) applications (at_edges (kept ++ left))

    -- with the test of the first edge made
    one_edge : (b : Bool) (kept : List EventEdge) (e : EventEdge) (es : List EventEdge) → test e ≡ b → NoneOf test kept → AllByRecursion (IsReady rule g) (kept ++ e ∷ es)
        → ((more : List EventEdge) → NoneOf test more → AllByRecursion (IsReady rule g) (more ++ es) → Sweeps more es (applied_after rule g v.name (length more) es) (flat_map (left_by_sweep rule g) es))
        → Sweeps kept (e ∷ es) (applied_where rule v.name (length kept) b (λ k. applied_after rule g v.name k es)) (cond b (edges_instead rule e) (e ∷ []) ++ flat_map (left_by_sweep rule g) es)
    one_edge true kept e es passes none ready go =
        let more = kept ++ edges_instead rule e in
        let left = flat_map (left_by_sweep rule g) es in
        let wide : length more ≡ length kept + count_instead rule = length-append kept (edges_instead rule e) ∙ ap (λ n. length kept + n) (edges_instead-length rule e) in
        let more_ready = every-joined (IsReady rule g) more es (every-joined (IsReady rule g) kept (edges_instead rule e) (every-front (IsReady rule g) kept (e ∷ es) ready) (edges_instead-ready rule g e)) (every-after (IsReady rule g) kept (e ∷ es) ready).1 in
        let more_none = every-joined (λ e. test e ≡ false) kept (edges_instead rule e) none (edges_instead-none rule g e) in (
          first_here kept e es none ready passes,
          at_edges (kept ++ (edges_instead rule e ++ es)),
          it_applies kept e es rule passes,
          subst (λ (x : List EventEdge). AreFirst (at_edges x) (applied_after rule g v.name (length kept + count_instead rule) es) (at_edges (kept ++ (edges_instead rule e ++ left)))) (append_assoc kept (edges_instead rule e) es)
              (subst (λ (x : List EventEdge). AreFirst (at_edges (more ++ es)) (applied_after rule g v.name (length kept + count_instead rule) es) (at_edges x)) (append_assoc kept (edges_instead rule e) left)
              (subst (λ (k : ℕ). AreFirst (at_edges (more ++ es)) (applied_after rule g v.name k es) (at_edges (more ++ left))) wide (go more more_none more_ready))),
        )
    one_edge false kept e es passes none ready go =
        let more = kept ++ e ∷ [] in
        let left = flat_map (left_by_sweep rule g) es in
        let wide : length more ≡ length kept + 1 = length-append kept (e ∷ []) in
        let more_ready = subst (AllByRecursion (IsReady rule g)) (sym (append_assoc kept (e ∷ []) es)) ready in
        let more_none = every-joined (λ e. test e ≡ false) kept (e ∷ []) none (passes, tt) in
        subst (λ (x : List EventEdge). AreFirst (at_edges x) (applied_after rule g v.name (length kept + 1) es) (at_edges (kept ++ e ∷ left))) (append_assoc kept (e ∷ []) es)
        (subst (λ (x : List EventEdge). AreFirst (at_edges (more ++ es)) (applied_after rule g v.name (length kept + 1) es) (at_edges x)) (append_assoc kept (e ∷ []) left)
        (subst (λ (k : ℕ). AreFirst (at_edges (more ++ es)) (applied_after rule g v.name k es) (at_edges (more ++ left))) wide (go more more_none more_ready)))

    sweeps_edges : (es kept : List EventEdge) → NoneOf test kept → AllByRecursion (IsReady rule g) (kept ++ es) → Sweeps kept es (applied_after rule g v.name (length kept) es) (flat_map (left_by_sweep rule g) es)
    sweeps_edges [] kept none ready = refl
    sweeps_edges (e ∷ es) kept none ready = one_edge (test e) kept e es refl none ready (λ more clear more_ready. sweeps_edges es more clear more_ready)

-- ---- what a sweep leaves

module _ (rule : EdgeRule) (g : EventGraph) where
  left-none : (es : List EventEdge) → NoneOf (edge_test rule g) (flat_map (left_by_sweep rule g) es)
  left-none [] = tt
  left-none (e ∷ es) = every-joined (λ e. edge_test rule g e ≡ false) (left_by_sweep rule g e) (flat_map (left_by_sweep rule g) es) (one (edge_test rule g e) refl) (left-none es) where
    one : (b : Bool) → edge_test rule g e ≡ b → NoneOf (edge_test rule g) (cond b (edges_instead rule e) (e ∷ []))
    one true passes = edges_instead-none rule g e
    one false passes = (passes, tt)

  left-ready : (es : List EventEdge) → AllByRecursion (IsReady rule g) es → AllByRecursion (IsReady rule g) (flat_map (left_by_sweep rule g) es)
  left-ready [] ready = tt
  left-ready (e ∷ es) ready = every-joined (IsReady rule g) (left_by_sweep rule g e) (flat_map (left_by_sweep rule g) es) (one (edge_test rule g e)) (left-ready es ready.1) where
    one : (b : Bool) → AllByRecursion (IsReady rule g) (cond b (edges_instead rule e) (e ∷ []))
    one true = edges_instead-ready rule g e
    one false = (ready.0, tt)

  pub swept-none : (vs : List EventVertex) → NoneIn (edge_test rule g) (map (swept_vertex rule g) vs)
  swept-none [] = tt
  swept-none (v ∷ vs) = (left-none v.edges, swept-none vs)

  pub swept-ready : (vs : List EventVertex) → AreReady rule g vs → AreReady rule g (map (swept_vertex rule g) vs)
  swept-ready [] ready = tt
  swept-ready (v ∷ vs) ready = (left-ready v.edges ready.0, swept-ready vs ready.1)

  -- ---- all vertices

  names-swept : (front : List EventVertex) (v : EventVertex) (vs : List EventVertex) → map name_of (front ++ v ∷ vs) ≡ map name_of ((front ++ swept_vertex rule g v ∷ []) ++ vs)
  names-swept [] v vs = refl
  names-swept (w ∷ front) v vs = ap (λ ns. w.name ∷ ns) (names-swept front v vs)

  sweeps_from : (front vs : List EventVertex) → NoneIn (edge_test rule g) front → AreReady rule g front → AreReady rule g vs → IsDistinct same_bytes (map name_of (front ++ vs)) → AreFirst (with_vertices g (front ++ vs)) (applied_to_all rule g vs) (with_vertices g (front ++ map (swept_vertex rule g) vs))
  sweeps_from front [] clean front_ready ready distinct = refl
  sweeps_from front (v ∷ vs) clean front_ready ready distinct =
      let s = swept_vertex rule g v in
      let pushed = front ++ s ∷ [] in
      let here = sweeps_edges g front v vs (not_named front v vs distinct) rule clean front_ready ready.1 v.edges [] tt ready.0 in
      let go = sweeps_from pushed vs
      (every-joined (λ (v : EventVertex). NoneOf (edge_test rule g) v.edges) front (s ∷ []) clean (left-none v.edges, tt))
      (every-joined (λ (v : EventVertex). AllByRecursion (IsReady rule g) v.edges) front (s ∷ []) front_ready (left-ready v.edges ready.0, tt))
      ready.1 (subst (IsDistinct same_bytes) (names-swept front v vs) distinct) in
      are_first-append (applied_after rule g v.name 0 v.edges) (applied_to_all rule g vs) (with_vertices g (front ++ v ∷ vs)) (with_vertices g (front ++ s ∷ vs)) (with_vertices g (front ++ s ∷ map (swept_vertex rule g) vs)) here
      (subst (λ (x : List EventVertex). AreFirst (with_vertices g x) (applied_to_all rule g vs) (with_vertices g (front ++ s ∷ map (swept_vertex rule g) vs))) (append_assoc front (s ∷ []) vs)
      (subst (λ (x : List EventVertex). AreFirst (with_vertices g (pushed ++ vs)) (applied_to_all rule g vs) (with_vertices g x)) (append_assoc front (s ∷ []) (map (swept_vertex rule g) vs)) go))

  -- the sweep over all vertices
  pub sweep_rules : (vs : List EventVertex) → AreReady rule g vs → IsDistinct same_bytes (map name_of vs) → AreFirst (with_vertices g vs) (applied_to_all rule g vs) (with_vertices g (map (swept_vertex rule g) vs))
  sweep_rules vs ready distinct = sweeps_from [] vs tt tt ready distinct
