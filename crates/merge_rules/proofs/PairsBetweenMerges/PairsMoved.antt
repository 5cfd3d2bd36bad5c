-- Where two vertices and those that they name take other places, they can be merged as before, as far as it depends on the two.
use Rattle.std.proofs.Common.{◌≡◌, ℕ, ◌+◌, ◌==◌, nat_lt, nat_le, Bool, true, false, not, ◌&&◌, ◌||◌, cond, List, [], ◌∷◌, ◌++◌, map, length, slice_get, Option, Some, None, refl, sym, ◌∙◌, ap, ap₂}
use Rattle.std.specs.Prelude.{count_by, is_none}
use Rattle.std.specs.List.{AllByRecursion, list_all, list_any, position_from, remove}
use Rattle.std.specs.Option.{option_map, option_map_or, option_and_then}
use Rattle.std.proofs.lemmas.List.{map-append, length-map}
use Rattle.std.proofs.lemmas.List.Sums.{sum_by-cons}
use Rattle.std.proofs.lemmas.Option.{slice_get-map}
use Rattle.sig_base.specs.declared.limits.TheConstants.{CHANGES_MAX, EDGES_MAX}
use Rattle.model_core.specs.EventGraph.{EventGraph, EventVertex, EventEdge, EdgeKind, Schedule, Urgent, CancelNext, CancelEqual, CancelAll, Fixed, Drawn, Uniform, ByTable, StateChange, Set, Draw, Expression, Watched, WatchedVariable, WatchedVertex, delay_given, has_drawn_delay}
use Rattle.model_core.specs.Run.Step.{vertex_at}
use Rattle.model_core.specs.Run.History.{watches}
use Rattle.model_core.specs.Rules.BoundsOf.{bounds_of}
use Rattle.model_core.specs.Rules.BoundsOfParts.{quiet_change, quiet_edge, quiet_delay}
use Rattle.model_core.specs.Rules.Conditions.{first_failed}
use Rattle.model_core.specs.Rules.Drop.{edge_renumbered, vertex_renumbered, watched_renumbered}
use Rattle.model_core.specs.Rules.Uses.{vertex_writes}
use Rattle.model_core.specs.Rules.UrgentEdges.{is_urgent, is_plain, plain_urgent, plain_urgent_edge}
use Rattle.model_core.specs.Rules.Merge.{cancels, is_cancelling, is_watched_vertex, reads_none_of, is_unwatched, happens_unseen, set_parameters, values_at_once, other_edges, merged_vertex, has_few_parts, merged_with}
use Rattle.model_core.proofs.Images.{map-remove}
use Rattle.run_laws.proofs.MappedVertices.{with_mapped, WatchedAreApart}
use Rattle.merge_rules.specs.KeptPairs.{UnseenIsRight}
use Rattle.merge_rules.specs.PairFits.{target_at_once, acts_unseen, pair_conditions, pair_fits}

-- ---- tests of lists

all-alike : {A B : Type 0} (f : A → B) (test : A → Bool) (test_too : B → Bool) → ((x : A) → test_too (f x) ≡ test x) → (xs : List A) → list_all test_too (map f xs) ≡ list_all test xs
all-alike f test test_too same [] = refl
all-alike f test test_too same (x ∷ xs) = ap₂ (λ a b. a && b) (same x) (all-alike f test test_too same xs)

all-same : {A : Type 0} (test test_too : A → Bool) → ((x : A) → test_too x ≡ test x) → (xs : List A) → list_all test_too xs ≡ list_all test xs
all-same test test_too same [] = refl
all-same test test_too same (x ∷ xs) = ap₂ (λ a b. a && b) (same x) (all-same test test_too same xs)

any-alike : {A B : Type 0} (f : A → B) (Live : A → Type 0) (test : A → Bool) (test_too : B → Bool) → ((x : A) → Live x → test_too (f x) ≡ test x) → (xs : List A) → AllByRecursion Live xs → list_any test_too (map f xs) ≡ list_any test xs
any-alike f Live test test_too same [] live = refl
any-alike f Live test test_too same (x ∷ xs) live = ap₂ (λ a b. a || b) (same x live.0) (any-alike f Live test test_too same xs live.1)

-- an answer that says whether one vertex acts unseen is right of another that acts unseen where the first does
pub unseen-stays : (unseen : Option Bool) (g h : EventGraph) (v w : EventVertex) → acts_unseen h w ≡ acts_unseen g v → UnseenIsRight unseen g v → UnseenIsRight unseen h w
unseen-stays None g h v w same right = tt
unseen-stays (Some unseen) g h v w same right = right ∙ sym same

-- ---- the plain urgent edge of a vertex whose edges lead elsewhere

module _ (f : ℕ → ℕ) where
  count-alike : (es : List EventEdge) → count_by is_urgent (map (edge_renumbered f) es) ≡ count_by is_urgent es
  count-alike [] = refl
  count-alike (e ∷ es) =
      sum_by-cons (λ e. cond (is_urgent e) 1 0) (edge_renumbered f e) (map (edge_renumbered f) es)
      ∙ ap (λ n. cond (is_urgent e) 1 0 + n) (count-alike es)
      ∙ sym (sum_by-cons (λ e. cond (is_urgent e) 1 0) e es)

  found-alike : (n : ℕ) (es : List EventEdge) → position_from is_plain n (map (edge_renumbered f) es) ≡ position_from is_plain n es
  found-alike n [] = refl
  found-alike n (e ∷ es) = ap (λ o. cond (is_plain e) (Some n) o) (found-alike (n + 1) es)

  plain-alike : (v : EventVertex) → plain_urgent (vertex_renumbered f v) ≡ plain_urgent v
  plain-alike v = ap₂ (λ n o. cond (n == 1) o None) (count-alike v.edges) (found-alike 0 v.edges)

  pub edge-alike : (v : EventVertex) → plain_urgent_edge (vertex_renumbered f v) ≡ option_map (edge_renumbered f) (plain_urgent_edge v)
  edge-alike v = ap (option_and_then (slice_get (map (edge_renumbered f) v.edges))) (plain-alike v) ∙ at (plain_urgent v) where
    at : (o : Option ℕ) → option_and_then (slice_get (map (edge_renumbered f) v.edges)) o ≡ option_map (edge_renumbered f) (option_and_then (slice_get v.edges) o)
    at None = refl
    at (Some k) = slice_get-map (edge_renumbered f) v.edges k

  pub target-alike : (v : EventVertex) → target_at_once (vertex_renumbered f v) ≡ option_map f (target_at_once v)
  target-alike v = ap (option_map (λ (e : EventEdge). e.target)) (edge-alike v) ∙ at (plain_urgent_edge v) where
    at : (o : Option EventEdge) → option_map (λ (e : EventEdge). e.target) (option_map (edge_renumbered f) o) ≡ option_map f (option_map (λ (e : EventEdge). e.target) o)
    at None = refl
    at (Some e) = refl

  values-alike : (v : EventVertex) → values_at_once (vertex_renumbered f v) ≡ values_at_once v
  values-alike v = ap (λ o. option_map_or (λ (e : EventEdge). e.values) o []) (edge-alike v) ∙ at (plain_urgent_edge v) where
    at : (o : Option EventEdge) → option_map_or (λ (e : EventEdge). e.values) (option_map (edge_renumbered f) o) [] ≡ option_map_or (λ (e : EventEdge). e.values) o []
    at None = refl
    at (Some e) = refl

  others-alike : (v : EventVertex) → other_edges (vertex_renumbered f v) ≡ map (edge_renumbered f) (other_edges v)
  others-alike v = ap (λ o. option_map_or (remove (map (edge_renumbered f) v.edges)) o (map (edge_renumbered f) v.edges)) (plain-alike v) ∙ at (plain_urgent v) where
    at : (o : Option ℕ) → option_map_or (remove (map (edge_renumbered f) v.edges)) o (map (edge_renumbered f) v.edges) ≡ map (edge_renumbered f) (option_map_or (remove v.edges) o v.edges)
    at None = refl
    at (Some k) = sym (map-remove (edge_renumbered f) v.edges k)

  few-alike : (v : EventVertex) → has_few_parts (vertex_renumbered f v) ≡ has_few_parts v
  few-alike v = ap (λ n. nat_le (length v.changes) CHANGES_MAX && nat_le n EDGES_MAX) (length-map v.edges (edge_renumbered f))

  joined-alike : (b a : EventVertex) → merged_with (vertex_renumbered f b) (vertex_renumbered f a) ≡ vertex_renumbered f (merged_with b a)
  joined-alike b a =
      ap₂ (λ values o. option_map_or (merged_vertex (vertex_renumbered f b) values (vertex_renumbered f a)) o (vertex_renumbered f a)) (values-alike a) (plain-alike a)
      ∙ at (plain_urgent a) where
        at : (o : Option ℕ) → option_map_or (merged_vertex (vertex_renumbered f b) (values_at_once a) (vertex_renumbered f a)) o (vertex_renumbered f a) ≡ vertex_renumbered f (option_map_or (merged_vertex b (values_at_once a) a) o a)
        at None = refl
        at (Some k) =
            ap (λ es. record { name = a.name; parameters = a.parameters; changes = a.changes ++ set_parameters b.parameters (values_at_once a) ++ b.changes; edges = es })
            (ap (λ es. es ++ map (edge_renumbered f) b.edges) (sym (map-remove (edge_renumbered f) a.edges k)) ∙ sym (map-append (edge_renumbered f) (remove a.edges k) b.edges))

-- ---- the graph with vertices that name others by new places

module _ (g : EventGraph) (f : ℕ → ℕ) (vertices : List EventVertex) where
  abbrev h : EventGraph
  h = with_mapped g f vertices

  change-quiet : (c : StateChange) → quiet_change h c ≡ quiet_change g c
  change-quiet (Set targets rights) = refl
  change-quiet (Draw target stream (Uniform lo hi)) = refl
  change-quiet (Draw target stream (ByTable t)) = refl

  timing-quiet : (kind : EdgeKind) → option_map_or (quiet_delay h) (delay_given kind) true ≡ option_map_or (quiet_delay g) (delay_given kind) true
  timing-quiet (Schedule (Fixed e) priority) = refl
  timing-quiet (Schedule (Drawn stream (Uniform lo hi)) priority) = refl
  timing-quiet (Schedule (Drawn stream (ByTable t)) priority) = refl
  timing-quiet Urgent = refl
  timing-quiet CancelNext = refl
  timing-quiet CancelEqual = refl
  timing-quiet CancelAll = refl

  edge-quiet : (e : EventEdge) → quiet_edge h (edge_renumbered f e) ≡ quiet_edge g e
  edge-quiet e = ap (λ b. (bounds_of g e.condition).quiet && list_all (λ (x : Expression). (bounds_of g x).quiet) e.values && b) (timing-quiet e.kind)

  unwatched-alike : (written : List ℕ) (w : Watched) → is_unwatched written (watched_renumbered f w) ≡ is_unwatched written w
  unwatched-alike written (WatchedVariable v) = refl
  unwatched-alike written (WatchedVertex v) = refl

  unseen-alike : (b : EventVertex) (values : List Expression) → happens_unseen h (vertex_renumbered f b) values ≡ happens_unseen g b values
  unseen-alike b values =
      λ i. all-alike (watched_renumbered f) (is_unwatched (vertex_writes b)) (is_unwatched (vertex_writes b)) (unwatched-alike (vertex_writes b)) g.watch i
      && all-same (quiet_change g) (quiet_change h) change-quiet (set_parameters b.parameters values) i
      && all-same (quiet_change g) (quiet_change h) change-quiet b.changes i
      && all-alike (edge_renumbered f) (quiet_edge g) (quiet_edge h) edge-quiet b.edges i

  pub acts-alike : (v : EventVertex) → acts_unseen h (vertex_renumbered f v) ≡ acts_unseen g v
  acts-alike v =
      λ i. all-alike (watched_renumbered f) (is_unwatched (vertex_writes v)) (is_unwatched (vertex_writes v)) (unwatched-alike (vertex_writes v)) g.watch i
      && all-same (quiet_change g) (quiet_change h) change-quiet v.changes i
      && all-alike (edge_renumbered f) (quiet_edge g) (quiet_edge h) edge-quiet v.edges i

  module _ (Live : ℕ → Type 0) (apart : (x y : ℕ) → Live x → Live y → (f x == f y) ≡ (x == y)) (watched : AllByRecursion (WatchedAreApart Live) g.watch) where
    watched-alike : (x : ℕ) → Live x → is_watched_vertex h (f x) ≡ is_watched_vertex g x
    watched-alike x live = any-alike (watched_renumbered f) (WatchedAreApart Live) (watches x) (watches (f x)) one g.watch watched where
      one : (w : Watched) → WatchedAreApart Live w → watches (f x) (watched_renumbered f w) ≡ watches x w
      one (WatchedVariable v) unseen = refl
      one (WatchedVertex v) unseen = apart v x unseen live

    cancels-alike : (x : ℕ) → Live x → (es : List EventEdge) → AllByRecursion (λ (e : EventEdge). Live e.target) es → list_any (cancels (f x)) (map (edge_renumbered f) es) ≡ list_any (cancels x) es
    cancels-alike x live = any-alike (edge_renumbered f) (λ (e : EventEdge). Live e.target) (cancels x) (cancels (f x)) (λ e there. ap (λ b. is_cancelling e.kind && b) (apart e.target x there live))

    -- of two that are where they have to be
    conditions-moved : (first second : ℕ) → Live first → Live second
        → AllByRecursion (λ (e : EventEdge). Live e.target) (vertex_at g first).edges
        → nat_lt (f first) (length vertices) ≡ nat_lt first (length g.vertices) → nat_lt (f second) (length vertices) ≡ nat_lt second (length g.vertices)
        → vertex_at h (f first) ≡ vertex_renumbered f (vertex_at g first) → vertex_at h (f second) ≡ vertex_renumbered f (vertex_at g second)
        → pair_conditions h (f first) (f second) ≡ pair_conditions g first second
    conditions-moved first second live target_live targets below target_below placed target_placed =
        let a = vertex_at g first in
        let b = vertex_at g second in
        λ i. (below i && target_below i && not (apart first second live target_live i))
        ∷ (ap (λ (v : EventVertex). is_none (plain_urgent v)) target_placed ∙ ap is_none (plain-alike f b)) i
        ∷ not (watched-alike second target_live i)
        ∷ (ap (λ (v : EventVertex). not (list_any (cancels (f second)) v.edges)) placed ∙ ap not (cancels-alike second target_live a.edges targets)) i
        ∷ (ap₂ (λ (w v : EventVertex). list_all (λ e. quiet_edge h e && reads_none_of (vertex_writes w) e && not (has_drawn_delay e)) (other_edges v)) target_placed placed
        ∙ ap (list_all (λ e. quiet_edge h e && reads_none_of (vertex_writes b) e && not (has_drawn_delay e))) (others-alike f a)
        ∙ all-alike (edge_renumbered f) (λ e. quiet_edge g e && reads_none_of (vertex_writes b) e && not (has_drawn_delay e)) (λ e. quiet_edge h e && reads_none_of (vertex_writes b) e && not (has_drawn_delay e)) (λ e. ap (λ c. c && reads_none_of (vertex_writes b) e && not (has_drawn_delay e)) (edge-quiet e)) (other_edges a)) i
        ∷ (not (watched-alike first live i)
        || (ap₂ (λ (w v : EventVertex). happens_unseen h w (values_at_once v)) target_placed placed ∙ ap (happens_unseen h (vertex_renumbered f b)) (values-alike f a) ∙ unseen-alike b (values_at_once a)) i)
        ∷ (ap₂ (λ (w v : EventVertex). has_few_parts (merged_with w v)) target_placed placed ∙ ap has_few_parts (joined-alike f b a) ∙ few-alike f (merged_with b a)) i
        ∷ []

    -- of the one and the target of its plain urgent edge, if it has one
    pub fits-moved : (first : ℕ) → Live first
        → AllByRecursion (λ (e : EventEdge). Live e.target) (vertex_at g first).edges
        → nat_lt (f first) (length vertices) ≡ nat_lt first (length g.vertices)
        → vertex_at h (f first) ≡ vertex_renumbered f (vertex_at g first)
        → ((second : ℕ) → target_at_once (vertex_at g first) ≡ Some second
        → Live second × (nat_lt (f second) (length vertices) ≡ nat_lt second (length g.vertices)) × (vertex_at h (f second) ≡ vertex_renumbered f (vertex_at g second)))
        → pair_fits h (f first) ≡ pair_fits g first
    fits-moved first live targets below placed second_moved =
        ap (λ (o : Option ℕ). option_map_or (λ second. is_none (first_failed (pair_conditions h (f first) second))) o false) (ap target_at_once placed ∙ target-alike f (vertex_at g first))
        ∙ at (target_at_once (vertex_at g first)) refl where
          at : (o : Option ℕ) → target_at_once (vertex_at g first) ≡ o → option_map_or (λ second. is_none (first_failed (pair_conditions h (f first) second))) (option_map f o) false ≡ option_map_or (λ second. is_none (first_failed (pair_conditions g first second))) o false
          at None is = refl
          at (Some second) is =
              let (target_live, target_below, target_placed) = second_moved second is in
              ap (λ conditions. is_none (first_failed conditions)) (conditions-moved first second live target_live targets below target_below placed target_placed)
