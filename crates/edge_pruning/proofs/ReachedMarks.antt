-- The vertices that are marked by passes are those that can be reached: those that the first and the watched vertices entail
-- over the pairs of a vertex and a target of its edges.
use Rattle.std.proofs.Common.{◌≡◌, inl, inr, ℕ, zero, suc, ◌<◌, ◌==◌, Bool, true, ◌||◌, List, [], ◌∷◌, length, slice_index_or, refl, sym, ap, ap₂, subst, arith, ◌∙◌}
use Rattle.std.specs.List.{list_any}
use Rattle.std.proofs.lemmas.Bool.{eqb-true}
use Rattle.model_core.specs.EventGraph.{EventGraph, EventVertex, EventEdge, Watched, WatchedVariable, WatchedVertex}
use Rattle.model_core.specs.Run.Step.{no_vertex, vertex_at}
use Rattle.model_core.specs.Run.History.{watches}
use Rattle.model_core.specs.Rules.MarkedPlaces.{marked_of, is_marked, is_among, passes}
use Rattle.model_core.specs.Rules.Entailed.{is_entailed_by, one_pair_further, entailed_marks}
use Rattle.model_core.specs.Rules.Reached.{begins_reached, is_led_to, one_edge_further, reached_marks}
use Rattle.model_core.specs.Rules.LeastRelations.{Reachable, reach_first, reach_watched, reach_over, Entailed, from_first, over_pair}
use Rattle.mark_laws.specs.PlacePairs.{successors_of, pairs_from}
use Rattle.mark_laws.proofs.Marks.{Marked}
use Rattle.model_core.proofs.PlacesChanged.{same_number, same_on_range}
use Rattle.mark_laws.proofs.EntailedMarks.{among-place, entailed-by, by-entailed, HoldEntailed, entailed_marks-entailed, entailed_marks-hold}
use Rattle.model_core.proofs.Among.{Among, among-contained, contained-among, among-map, among-of_map, second_true, any-among, among-any}
use Rattle.mark_laws.proofs.MarksBelow.{among-marked, marked-among, same_mark}
use Rattle.mark_laws.proofs.PairsOfSuccessors.{successors-pairs, pairs-successors}
use Rattle.edge_pruning.specs.Inner.Walk.{targets_of, targets_by_vertex, watched_vertices}

-- ---- where one begins

pub first-begins : (g : EventGraph) → begins_reached g 0 ≡ true
first-begins g = refl

pub watched-begins : (g : EventGraph) (k : ℕ) → Among (WatchedVertex k) g.watch → begins_reached g k ≡ true
watched-begins g k among = second_true (k == 0) (list_any (watches k) g.watch) (among-any (watches k) g.watch (WatchedVertex k) among (same_number k k refl))

among-watched : (watch : List Watched) (k : ℕ) → Among k (watched_vertices watch) → Among (WatchedVertex k) watch
among-watched [] k h = absurd h
among-watched (WatchedVariable v ∷ watch) k h = inr (among-watched watch k h)
among-watched (WatchedVertex v ∷ watch) k (inl e) = inl (ap WatchedVertex e)
among-watched (WatchedVertex v ∷ watch) k (inr h) = inr (among-watched watch k h)

watches-alike : (watch : List Watched) (k : ℕ) → list_any (watches k) watch ≡ is_among (watched_vertices watch) k
watches-alike [] k = refl
watches-alike (WatchedVariable v ∷ watch) k = watches-alike watch k
watches-alike (WatchedVertex v ∷ watch) k = ap (λ b. (v == k) || b) (watches-alike watch k)

zero-alike : (k : ℕ) → (k == 0) ≡ (0 == k)
zero-alike k = same_mark (k == 0) (0 == k) (λ e. same_number 0 k (sym (eqb-true k 0 e))) (λ e. same_number k 0 (sym (eqb-true 0 k e)))

-- ---- one edge, and one pair

pub has_edges : (vs : List EventVertex) (k : ℕ) (e : EventEdge) → Among e (slice_index_or vs k no_vertex).edges → k < length vs
has_edges [] k e h = absurd h
has_edges (v ∷ vs) zero e h = omega arith
has_edges (v ∷ vs) (suc k) e h = omega (arith, has_edges vs k e h)

pub successors-targets : (vs : List EventVertex) (k : ℕ) → successors_of (targets_by_vertex vs) k ≡ targets_of (slice_index_or vs k no_vertex).edges
successors-targets [] k = refl
successors-targets (v ∷ vs) zero = refl
successors-targets (v ∷ vs) (suc k) = successors-targets vs k

edge-pair : (vs : List EventVertex) (k : ℕ) (e : EventEdge) → Among e (slice_index_or vs k no_vertex).edges → Among (k, e.target) (pairs_from 0 (targets_by_vertex vs))
edge-pair vs k e among =
    successors-pairs (targets_by_vertex vs) 0 k k e.target (omega arith)
    (subst (λ (ks : List ℕ). Among e.target ks) (sym (successors-targets vs k)) (among-map (λ (e : EventEdge). e.target) (slice_index_or vs k no_vertex).edges e among))

pair-edge : (vs : List EventVertex) (k j : ℕ) → Among (k, j) (pairs_from 0 (targets_by_vertex vs)) → (e : EventEdge) × Among e (slice_index_or vs k no_vertex).edges × (e.target ≡ j)
pair-edge vs k j among =
    let (i, is, there) = pairs-successors (targets_by_vertex vs) 0 k j among in
    let same : i ≡ k = omega (arith, is) in
    among-of_map (λ (e : EventEdge). e.target) (slice_index_or vs k no_vertex).edges j (subst (λ (ks : List ℕ). Among j ks) (successors-targets vs k) (subst (λ (i : ℕ). Among j (successors_of (targets_by_vertex vs) i)) same there))

led-by : (vs : List EventVertex) (marks : List Bool) (k : ℕ) → is_led_to marks vs k ≡ true → is_entailed_by marks (pairs_from 0 (targets_by_vertex vs)) k ≡ true
led-by vs marks k led =
    let (v, among, some) = any-among (λ (v : EventVertex). list_any (λ (e : EventEdge). e.target == k) v.edges) (marked_of marks vs) led in
    let (e, among_edges, is) = any-among (λ (e : EventEdge). e.target == k) v.edges some in
    let (vertex, marked, same) = marked-among marks vs v no_vertex among in
    let there : Among (vertex, e.target) (pairs_from 0 (targets_by_vertex vs)) = edge-pair vs vertex e (subst (λ (v : EventVertex). Among e v.edges) (sym same) among_edges) in
    by-entailed marks (pairs_from 0 (targets_by_vertex vs)) vertex k marked (subst (λ (j : ℕ). Among (vertex, j) (pairs_from 0 (targets_by_vertex vs))) (eqb-true e.target k is) there)

leads-to : (vs : List EventVertex) (marks : List Bool) (k : ℕ) → is_entailed_by marks (pairs_from 0 (targets_by_vertex vs)) k ≡ true → is_led_to marks vs k ≡ true
leads-to vs marks k entails =
    let (vertex, marked, pair) = entailed-by marks (pairs_from 0 (targets_by_vertex vs)) k entails in
    let (e, among, is) = pair-edge vs vertex k pair in
    among-any (λ (v : EventVertex). list_any (λ (f : EventEdge). f.target == k) v.edges) (marked_of marks vs) (slice_index_or vs vertex no_vertex)
    (among-marked marks vs vertex no_vertex marked (has_edges vs vertex e among))
    (among-any (λ (f : EventEdge). f.target == k) (slice_index_or vs vertex no_vertex).edges e among (same_number e.target k is))

further-alike : (vs : List EventVertex) (marks : List Bool) → one_edge_further vs marks ≡ one_pair_further (pairs_from 0 (targets_by_vertex vs)) marks
further-alike vs marks =
    same_on_range (λ k. is_marked marks k || is_led_to marks vs k) (λ k. is_marked marks k || is_entailed_by marks (pairs_from 0 (targets_by_vertex vs)) k) 0 (length marks)
    (λ k from. ap (λ b. is_marked marks k || b) (same_mark _ _ (led-by vs marks k) (leads-to vs marks k)))

-- ---- what can be reached is what is entailed

module _ (g : EventGraph) where
  abbrev first : List ℕ
  first = 0 ∷ watched_vertices g.watch

  abbrev pairs : List (ℕ × ℕ)
  pairs = pairs_from 0 (targets_by_vertex g.vertices)

  abbrev count : ℕ
  count = length g.vertices

  begins-alike : (k : ℕ) → begins_reached g k ≡ is_among first k
  begins-alike k = ap₂ (λ a b. a || b) (zero-alike k) (watches-alike g.watch k)

  pub reached_marks-entailed : reached_marks g ≡ entailed_marks count first pairs
  reached_marks-entailed =
      ap₂ (λ (pass : List Bool → List Bool) (marks : List Bool). passes pass (length marks) marks)
      (λ i marks. further-alike g.vertices marks i)
      (same_on_range (begins_reached g) (is_among first) 0 count (λ k from. begins-alike k))

  entailed-reachable : {k : ℕ} → Entailed count first pairs k → Reachable g k
  entailed-reachable (from_first k below contains) = begun (among-contained first k contains) where
    begun : Among k first → Reachable g k
    begun (inl e) = subst (Reachable g) e reach_first
    begun (inr watched) = reach_watched k (contained-among g.watch (WatchedVertex k) (among-watched g.watch k watched))
  entailed-reachable (over_pair j k below before contains) =
      let (e, among, is) = pair-edge g.vertices j k (among-contained pairs (j, k) contains) in
      subst (Reachable g) is (reach_over j e (entailed-reachable before) (contained-among (vertex_at g j).edges e among))

  pub reached_marks-reachable : (k : ℕ) → Marked (reached_marks g) k → Reachable g k
  reached_marks-reachable k marked = entailed-reachable (entailed_marks-entailed count first pairs k (subst (λ (marks : List Bool). Marked marks k) reached_marks-entailed marked))

-- ---- marks that hold what begins and what is led to hold all that can be reached

-- the edges of the vertex at this place lead to marked vertices alone, as far as there are vertices
abbrev pub Leads : EventGraph → List Bool → ℕ → Type 0
Leads g marks k = (e : EventEdge) → Among e (vertex_at g k).edges → e.target < length g.vertices → Marked marks e.target

pub record HoldReached (g : EventGraph) (marks : List Bool) : Type 0 where
  pub begins : (k : ℕ) → begins_reached g k ≡ true → k < length g.vertices → Marked marks k
  pub leads : (k : ℕ) → Marked marks k → Leads g marks k

pub reachable-marked : (g : EventGraph) (marks : List Bool) → HoldReached g marks → {k : ℕ} → Reachable g k → k < length g.vertices → Marked marks k
reachable-marked g marks ok reach_first below = ok.begins 0 (first-begins g) below
reachable-marked g marks ok (reach_watched vertex contains) below = ok.begins vertex (watched-begins g vertex (among-contained g.watch (WatchedVertex vertex) contains)) below
reachable-marked g marks ok (reach_over vertex e before contains) below =
    let among = among-contained (vertex_at g vertex).edges e contains in
    ok.leads vertex (reachable-marked g marks ok before (has_edges g.vertices vertex e among)) e among below

pub reached_marks-hold : (g : EventGraph) → HoldReached g (reached_marks g)
reached_marks-hold g = subst (HoldReached g) (sym (reached_marks-entailed g)) (record {
  begins = λ k begins below. hold.begins k (among-place (first g) k (sym (begins-alike g k) ∙ begins)) below;
  leads = λ k marked e among below. hold.leads k e.target marked (edge-pair g.vertices k e among) below;
}) where
  hold : HoldEntailed (count g) (first g) (pairs g) (entailed_marks (count g) (first g) (pairs g))
  hold = entailed_marks-hold (count g) (first g) (pairs g)
