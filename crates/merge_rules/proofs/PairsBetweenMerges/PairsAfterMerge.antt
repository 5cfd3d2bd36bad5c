-- What is kept of the vertices is right after a merge, once that is noted.
use Rattle.std.proofs.Common.{◌≡◌, ℕ, ◌+◌, ◌-◌, ◌<◌, ◌==◌, nat_lt, Bool, true, false, cond, List, [], ◌∷◌, ◌++◌, map, length, slice_get, slice_index_or, Option, Some, None, is_some, is_none, refl, sym, ◌∙◌, ap, ap₂, subst, arith}
use Rattle.std.specs.List.{AllByRecursion, remove}
use Rattle.std.specs.Option.{option_map, option_map_or, option_and_then}
use Rattle.std.proofs.lemmas.List.{length-map}
use Rattle.std.proofs.lemmas.Bool.{eqb-true}
use Rattle.model_core.specs.EventGraph.{EventGraph, EventVertex, EventEdge, Watched, WatchedVariable, WatchedVertex}
use Rattle.model_core.specs.Run.Step.{no_vertex, vertex_at}
use Rattle.model_core.specs.Rules.Conditions.{first_failed}
use Rattle.model_core.specs.Rules.Drop.{edge_renumbered, vertex_renumbered, watched_renumbered}
use Rattle.model_core.specs.Rules.PlacedEdges.{with_place}
use Rattle.model_core.specs.Rules.UrgentEdges.{plain_urgent}
use Rattle.model_core.specs.Rules.Merge.{merge_conditions, merged_with, merged}
use Rattle.model_core.proofs.PlacesChanged.{length_placed, shown_placed, placed-there, placed-elsewhere}
use Rattle.run_laws.proofs.MappedVertices.{WatchedAreApart}
use Rattle.model_core.specs.Text.Canonical.{vertex_name}
use Rattle.merge_rules.specs.PairFits.{target_at_once, acts_unseen, pair_conditions, pair_fits}
use Rattle.merge_rules.specs.Growth.{growth, pair_growth}
use Rattle.merge_rules.specs.declared.growth.Growth.{Growth}
use Rattle.merge_rules.specs.KeptPairs.{edges_leading, edges_to, FitIsRight, PairIsRight, PairsAreRight, no_pair}
use Rattle.merge_rules.specs.Inner.PairMoves.{with_more, with_fewer, edges_added, answer_forgotten, target_removed, pairs_merged}
use Rattle.merge_rules.specs.declared.kept_pairs.KeptPair.{KeptPair}
use Rattle.merge_rules.specs.declared.kept_pairs.PairAnswer.TheVariants as answers
use Rattle.merge_rules.specs.UrgentVertices.{has_plain}
use Rattle.merge_rules.proofs.OneStepForTwo.MergeHolds.{conditions_hold, first_there}
use Rattle.merge_rules.proofs.OneStepForTwo.MergeResult.{joined_is}
use Rattle.merge_rules.proofs.OneStepForTwo.EdgesAside.{urgent_edge}
use Rattle.merge_rules.proofs.SingleUrgentModels.OneUrgentLess.{plain_gone}
use Rattle.merge_rules.proofs.PairsBetweenMerges.PairsMoved.{acts-alike, fits-moved, unseen-stays}
use Rattle.merge_rules.proofs.PairsBetweenMerges.GrowthMoved.{growth-moved}
use Rattle.vertex_laws.proofs.MergedNames.{name_stays}
use Rattle.merge_rules.proofs.PairsBetweenMerges.LedPlaces.{mapped-there, added-long, added-at, one_fewer-at, leading-joined, leading-without, to-placed}

-- ---- names that stay

watch-same : (watch : List Watched) → map (watched_renumbered (λ k. k)) watch ≡ watch
watch-same [] = refl
watch-same (WatchedVariable v ∷ watch) = ap (λ ws. WatchedVariable v ∷ ws) (watch-same watch)
watch-same (WatchedVertex v ∷ watch) = ap (λ ws. WatchedVertex v ∷ ws) (watch-same watch)

edges-same : (es : List EventEdge) → map (edge_renumbered (λ k. k)) es ≡ es
edges-same [] = refl
edges-same (e ∷ es) = ap (λ es. e ∷ es) (edges-same es)

vertex-same : (v : EventVertex) → vertex_renumbered (λ k. k) v ≡ v
vertex-same v = ap (λ es. record v { edges = es }) (edges-same v.edges)

all_apart : (watch : List Watched) → AllByRecursion (WatchedAreApart (λ k. Unit {0})) watch
all_apart [] = tt
all_apart (WatchedVariable v ∷ watch) = (tt, all_apart watch)
all_apart (WatchedVertex v ∷ watch) = (tt, all_apart watch)

all-live : (es : List EventEdge) → AllByRecursion (λ (e : EventEdge). Unit {0}) es
all-live [] = tt
all-live (e ∷ es) = (tt, all-live es)

no-plain : (v : EventVertex) → has_plain v ≡ false → target_at_once v ≡ None
no-plain v none = by (plain_urgent v) none where
  by : (o : Option ℕ) → is_some o ≡ false → option_map (λ (e : EventEdge). e.target) (option_and_then (slice_get v.edges) o) ≡ None
  by None e = refl
  by (Some k) e = cc

module _ (g : EventGraph) (first second : ℕ) (none : first_failed (merge_conditions g first second) ≡ None) where
  abbrev h : EventGraph
  h = merged g first second

  abbrev a : EventVertex
  a = vertex_at g first

  abbrev b : EventVertex
  b = vertex_at g second

  elsewhere : (k : ℕ) → (k == first) ≡ false → vertex_at h k ≡ vertex_at g k
  elsewhere k apart = placed-elsewhere (merged_with b) first k g.vertices no_vertex apart

  here : vertex_at h first ≡ merged_with b a
  here = placed-there (merged_with b) first g.vertices no_vertex (first_there g first second none)

  long : length h.vertices ≡ length g.vertices
  long = length_placed (merged_with b) first g.vertices

  -- two that aren't the one that has changed can be merged as before
  fits-elsewhere : (k : ℕ) → (k == first) ≡ false → ((t : ℕ) → target_at_once (vertex_at g k) ≡ Some t → (t == first) ≡ false) → pair_fits h k ≡ pair_fits g k
  fits-elsewhere k apart target_apart =
      ap (λ (watch : List Watched). pair_fits (let g : EventGraph = record h { watch = watch } in g) k) (sym (watch-same g.watch))
      ∙ fits-moved g (λ k. k) h.vertices (λ k. Unit {0}) (λ x y live too. refl) (all_apart g.watch) k tt (all-live (vertex_at g k).edges)
      (ap (nat_lt k) long) (elsewhere k apart ∙ sym (vertex-same (vertex_at g k)))
      (λ t is. (tt, ap (nat_lt t) long, elsewhere t (target_apart t is) ∙ sym (vertex-same (vertex_at g t))))

  -- the text becomes as much longer
  names-stay : (k : ℕ) → Unit {0} → vertex_name h k ≡ vertex_name g k
  names-stay k live = sym (shown_placed (λ (v : EventVertex). v.name) (merged_with b) [] (name_stays b) first g.vertices k)

  acts-elsewhere : (k : ℕ) → (k == first) ≡ false → acts_unseen h (vertex_at h k) ≡ acts_unseen g (vertex_at g k)
  acts-elsewhere k apart =
      ap (acts_unseen h) (elsewhere k apart ∙ sym (vertex-same (vertex_at g k)))
      ∙ ap (λ (watch : List Watched). acts_unseen (let g : EventGraph = record h { watch = watch } in g) (vertex_renumbered (λ k. k) (vertex_at g k))) (sym (watch-same g.watch))
      ∙ acts-alike g (λ k. k) h.vertices (vertex_at g k)

  growth-elsewhere : (k : ℕ) → (k == first) ≡ false → ((t : ℕ) → target_at_once (vertex_at g k) ≡ Some t → (t == first) ≡ false) → growth h k ≡ growth g k
  growth-elsewhere k apart target_apart =
      growth-moved g (λ k. k) h.vertices (λ k. Unit {0}) names-stay k (elsewhere k apart ∙ sym (vertex-same (vertex_at g k)))
      (λ t is. (tt, elsewhere t (target_apart t is) ∙ sym (vertex-same (vertex_at g t)), all-live (vertex_at g t).edges))

  pair-growth-elsewhere : (k : ℕ) → (k == first) ≡ false → ((t : ℕ) → target_at_once (vertex_at g k) ≡ Some t → (t == first) ≡ false) → pair_growth h k ≡ pair_growth g k
  pair-growth-elsewhere k apart target_apart = ap₂ (λ fits (grows : Growth). cond fits (Some grows) None) (fits-elsewhere k apart target_apart) (growth-elsewhere k apart target_apart)

  -- the edge to the second vertex is gone, and its own are added
  edges-counted : (k : ℕ) → edges_to h.vertices k ≡ edges_to g.vertices k + edges_leading b.edges k - cond (second == k) 1 0
  edges-counted k =
      let p = (conditions_hold g first second none).edge in
      let placed = to-placed (merged_with b) g.vertices first k (first_there g first second none) in
      let rest : cond (second == k) 1 0 + edges_leading (remove a.edges p.place) k ≡ edges_leading a.edges k = leading-without a.edges p.place (urgent_edge second p.values) k p.there in
      let joined : edges_leading (merged_with b a).edges k ≡ edges_leading (remove a.edges p.place) k + edges_leading b.edges k =
      ap (λ (v : EventVertex). edges_leading v.edges k) (joined_is a b second p) ∙ ap (λ (es : List EventEdge). edges_leading (es ++ b.edges) k) (sym p.rest) ∙ leading-joined (remove a.edges p.place) b.edges k in
      omega (arith, placed, rest, joined)

  module _ (pairs : List KeptPair) (are : PairsAreRight g pairs) where
    abbrev counted : List KeptPair
    counted = with_place (with_fewer 1) second (edges_added b.edges pairs)

    abbrev after : List KeptPair
    after = pairs_merged first second b.edges pairs

    counted-long : length counted ≡ length pairs
    counted-long = length_placed (with_fewer 1) second (edges_added b.edges pairs) ∙ added-long b.edges pairs

    counted-at : (k : ℕ) → k < length pairs → slice_index_or counted k no_pair ≡ with_fewer (cond (second == k) 1 0) (with_more (edges_leading b.edges k) (slice_index_or pairs k no_pair))
    counted-at k below =
        one_fewer-at second k (edges_added b.edges pairs) (omega (arith, below, added-long b.edges pairs))
        ∙ ap (with_fewer (cond (second == k) 1 0)) (added-at b.edges pairs k below)

    after-long : length after ≡ length h.vertices
    after-long = length_placed target_removed first (map (answer_forgotten first) counted) ∙ length-map counted (answer_forgotten first) ∙ counted-long ∙ are.long ∙ sym long

    asked-at : (k : ℕ) → k < length pairs → slice_index_or (map (answer_forgotten first) counted) k no_pair ≡ answer_forgotten first (with_fewer (cond (second == k) 1 0) (with_more (edges_leading b.edges k) (slice_index_or pairs k no_pair)))
    asked-at k below = mapped-there (answer_forgotten first) counted k no_pair (omega (arith, below, counted-long)) ∙ ap (answer_forgotten first) (counted-at k below)

    -- what is known of the other stays known, but where its plain urgent edge leads to the one that has changed
    fit-stays : (k : ℕ) → (k == first) ≡ false → (p : KeptPair) → p.target ≡ target_at_once (vertex_at g k) → FitIsRight p.answer (pair_growth g k) → FitIsRight (answer_forgotten first p).answer (pair_growth h k)
    fit-stays k apart p target was_right = by p.target refl where
      by : (o : Option ℕ) → p.target ≡ o → FitIsRight (cond (option_map_or (λ target. target == first) o false) answers.Unknown p.answer) (pair_growth h k)
      by None is = subst (FitIsRight p.answer) (sym (pair-growth-elsewhere k apart (λ t leads. let no : None ≡ Some t = sym is ∙ target ∙ leads in cc))) was_right
      by (Some t) is = chosen (t == first) refl where
        chosen : (c : Bool) → (t == first) ≡ c → FitIsRight (cond c answers.Unknown p.answer) (pair_growth h k)
        chosen true same = tt
        chosen false other =
            subst (FitIsRight p.answer)
            (sym (pair-growth-elsewhere k apart (λ u leads. let both : Some t ≡ Some u = sym is ∙ target ∙ leads in let e : t ≡ u = cc in subst (λ v. (v == first) ≡ false) e other))) was_right

    pair-elsewhere : (k : ℕ) → k < length g.vertices → (k == first) ≡ false → PairIsRight h k (slice_index_or after k no_pair)
    pair-elsewhere k below apart =
        let p = slice_index_or pairs k no_pair in
        let was = are.each k below in
        let within : k < length pairs = omega (arith, below, are.long) in
        subst (PairIsRight h k) (sym (placed-elsewhere target_removed first k (map (answer_forgotten first) counted) no_pair apart ∙ asked-at k within)) (record {
          target = was.target ∙ sym (ap target_at_once (elsewhere k apart));
          answer = fit-stays k apart (with_fewer (cond (second == k) 1 0) (with_more (edges_leading b.edges k) p)) was.target was.answer;
          unseen = unseen-stays p.unseen g h _ _ (acts-elsewhere k apart) was.unseen;
          incoming = ap (λ n. n + edges_leading b.edges k - cond (second == k) 1 0) was.incoming ∙ sym (edges-counted k);
        })

    pair-here : PairIsRight h first (slice_index_or after first no_pair)
    pair-here =
        let there = first_there g first second none in
        let was = are.each first there in
        let within : first < length pairs = omega (arith, there, are.long) in
        let leads : target_at_once (vertex_at h first) ≡ None = ap target_at_once here ∙ no-plain (merged_with b a) (plain_gone g first second none) in
        subst (PairIsRight h first)
        (sym (placed-there target_removed first (map (answer_forgotten first) counted) no_pair (omega (arith, within, length-map counted (answer_forgotten first), counted-long)) ∙ ap target_removed (asked-at first within)))
        (record {
          target = sym leads;
          answer = ap (λ (o : Option ℕ). cond (option_map_or (λ second. is_none (first_failed (pair_conditions h first second))) o false) (Some (growth h first)) None) leads;
          unseen = tt;
          incoming = ap (λ n. n + edges_leading b.edges first - cond (second == first) 1 0) was.incoming ∙ sym (edges-counted first);
        })

    pub are-merged : PairsAreRight h after
    are-merged = record { long = after-long; each = each } where
      each : (k : ℕ) → k < length h.vertices → PairIsRight h k (slice_index_or after k no_pair)
      each k below = by (k == first) refl where
        by : (c : Bool) → (k == first) ≡ c → PairIsRight h k (slice_index_or after k no_pair)
        by true same = subst (λ j. PairIsRight h j (slice_index_or after j no_pair)) (sym (eqb-true k first same)) pair-here
        by false apart = pair-elsewhere k (omega (arith, below, long)) apart
