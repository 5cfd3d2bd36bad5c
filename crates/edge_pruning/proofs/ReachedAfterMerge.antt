-- After a merge of a model whose vertices can all be reached, all but the second one can be reached, and that one too where
-- an edge leads to it.
use Rattle.std.proofs.Common.{◌≡◌, ◌⊎◌, inl, inr, ℕ, zero, suc, ◌+◌, ◌<◌, ◌≤◌, ◌==◌, Bool, true, false, not, ◌&&◌, cond, List, [], ◌∷◌, ◌++◌, length, Some, None, refl, sym, ap, ap₂, subst, arith, ◌∙◌}
use Rattle.std.specs.Prelude.{filter, nat_lt, slice_get, slice_index_or, Option}
use Rattle.std.specs.List.{list_any, range_with_len, remove}
use Rattle.std.specs.Option.{option_map_or, option_and_then}
use Rattle.std.proofs.lemmas.Bool.Decides.{nat_tests}
use Rattle.std.proofs.lemmas.Bool.{ltb-true, eqb-false, not-true, cases_Bool, eqb-true}
use Rattle.model_core.specs.EventGraph.{EventGraph, EventVertex, EventEdge, WatchedVertex, Watched}
use Rattle.model_core.specs.Run.Step.{no_vertex, vertex_at}
use Rattle.model_core.specs.Run.History.{watches}
use Rattle.model_core.specs.Rules.Conditions.{first_failed}
use Rattle.model_core.specs.Rules.MarkedPlaces.{is_marked, unmarked_places}
use Rattle.model_core.specs.Rules.Reached.{reached_marks, unreached}
use Rattle.model_core.specs.Rules.LeastRelations.{Reachable, reach_first, reach_watched, reach_over}
use Rattle.model_core.specs.Rules.UrgentEdges.{plain_urgent, plain_urgent_edge}
use Rattle.model_core.specs.Rules.Merge.{leads_to, is_watched_vertex, merged_vertex, values_at_once, merged_with, merged, merge_conditions}
use Rattle.model_core.proofs.AllHold.{every-holds}
use Rattle.model_core.proofs.BothTrue.{and_first, and_second}
use Rattle.model_core.proofs.Among.{Among, among-contained, contained-among, among-front, among-back, any-among, among-any}
use Rattle.model_core.proofs.PlacesChanged.{length_placed, same_number, apart-turned, placed-elsewhere, placed-there}
use Rattle.mark_laws.proofs.Marks.{Marked}
use Rattle.mark_laws.proofs.ReachedLong.{reached_marks-long}
use Rattle.mark_laws.proofs.UnmarkedPlaces.{apart-or-same, none_unmarked, marked_all}
use Rattle.edge_pruning.proofs.ReachedMarks.{has_edges, reachable-marked, reached_marks-hold, reached_marks-reachable}

-- ---- lists with one element changed or taken out

module _ {A : Type 0} where
  -- an element is the one at a place, or is left without it
  among-left : (xs : List A) (place : ℕ) (x : A) → Among x xs → (slice_get xs place ≡ Some x) ⊎ Among x (remove xs place)
  among-left [] place x h = absurd h
  among-left (y ∷ ys) zero x (inl e) = inl (ap Some e)
  among-left (y ∷ ys) zero x (inr there) = inr there
  among-left (y ∷ ys) (suc place) x (inl e) = inr (inl e)
  among-left (y ∷ ys) (suc place) x (inr there) = later (among-left ys place x there) where
    later : (slice_get ys place ≡ Some x) ⊎ Among x (remove ys place) → (slice_get ys place ≡ Some x) ⊎ ((y ≡ x) ⊎ Among x (remove ys place))
    later (inl at) = inl at
    later (inr left) = inr (inr left)

among-at : (vs : List EventVertex) (v : EventVertex) → Among v vs → (k : ℕ) × (slice_index_or vs k no_vertex ≡ v)
among-at [] v h = absurd h
among-at (w ∷ vs) v (inl e) = (zero, e)
among-at (w ∷ vs) v (inr h) = let (k, e) = among-at vs v h in (suc k, e)

at-among : (vs : List EventVertex) (k : ℕ) → k < length vs → Among (slice_index_or vs k no_vertex) vs
at-among [] k below = absurd (omega arith)
at-among (v ∷ vs) zero below = inl refl
at-among (v ∷ vs) (suc k) below = inr (at-among vs k (omega (arith, below)))

-- ---- places that aren't marked

module _ (test : ℕ → Bool) (b : ℕ) where
  none-after : (a n : ℕ) → b < a → ((k : ℕ) → k < a + n → (k == b) ≡ false → test k ≡ false) → filter test (range_with_len a n) ≡ []
  none-after a zero past others = refl
  none-after a (suc n) past others =
      ap (λ t. cond t (a ∷ filter test (range_with_len (a + 1) n)) (filter test (range_with_len (a + 1) n))) (others a (omega arith) (let e : (a == b) ≡ false = grind (arith, nat_tests) in e))
      ∙ none-after (a + 1) n (omega (arith, past)) (λ k below. others k (omega (arith, below)))

  one-passes : (a n : ℕ) → a ≤ b → b < a + n → test b ≡ true → ((k : ℕ) → k < a + n → (k == b) ≡ false → test k ≡ false) → filter test (range_with_len a n) ≡ b ∷ []
  one-passes a zero from below passes others = absurd (omega (arith, from, below))
  one-passes a (suc n) from below passes others = by (apart-or-same a b) (one-passes (a + 1) n) where
    rest : List ℕ
    rest = filter test (range_with_len (a + 1) n)

    by : (a ≡ b) ⊎ ((a == b) ≡ false) → (a + 1 ≤ b → b < a + 1 + n → test b ≡ true → ((k : ℕ) → k < a + 1 + n → (k == b) ≡ false → test k ≡ false) → rest ≡ b ∷ []) → cond (test a) (a ∷ rest) rest ≡ b ∷ []
    by (inl same) later =
        ap (λ t. cond t (a ∷ rest) rest) (ap test same ∙ passes)
        ∙ ap₂ (λ k ks. k ∷ ks) same (none-after (a + 1) n (omega (arith, same)) (λ k below. others k (omega (arith, below))))
    by (inr apart) later =
        ap (λ t. cond t (a ∷ rest) rest) (others a (omega arith) apart)
        ∙ later (let l : a + 1 ≤ b = grind (arith, nat_tests) in l) (omega (arith, below)) passes (λ k below. others k (omega (arith, below)))

pub one_unmarked : (marks : List Bool) (b : ℕ) → b < length marks → is_marked marks b ≡ false → ((k : ℕ) → k < length marks → (k == b) ≡ false → Marked marks k) → unmarked_places marks ≡ b ∷ []
one_unmarked marks b below unmarked others =
    one-passes (λ k. not (is_marked marks k)) b 0 (length marks) (omega arith) (omega (arith, below)) (ap not unmarked)
    (λ k below apart. ap not (others k (omega (arith, below)) apart))

-- ---- two that are merged

-- what this needs to know of the conditions
pub record Joined (g : EventGraph) (first second : ℕ) : Type 0 where
  there : first < length g.vertices
  second_there : second < length g.vertices
  apart : (first == second) ≡ false
  place : ℕ
  at : plain_urgent (vertex_at g first) ≡ Some place
  leads : (e : EventEdge) → slice_get (vertex_at g first).edges place ≡ Some e → e.target ≡ second
  unwatched : is_watched_vertex g second ≡ false

led-at : (v : EventVertex) (second : ℕ) → option_map_or (leads_to second) (plain_urgent_edge v) false ≡ true → (place : ℕ) × (plain_urgent v ≡ Some place) × ((e : EventEdge) → slice_get v.edges place ≡ Some e → e.target ≡ second)
led-at v second leads = by (plain_urgent v) refl leads where
  by : (o : Option ℕ) → plain_urgent v ≡ o → option_map_or (leads_to second) (option_and_then (slice_get v.edges) o) false ≡ true → (place : ℕ) × (plain_urgent v ≡ Some place) × ((e : EventEdge) → slice_get v.edges place ≡ Some e → e.target ≡ second)
  by None is h = cc
  by (Some place) is h = (place, is, λ e there. eqb-true e.target second (ap (λ o. option_map_or (leads_to second) o false) (sym there) ∙ h))

pub joined : (g : EventGraph) (first second : ℕ) → first_failed (merge_conditions g first second) ≡ None → Joined g first second
joined g first second none =
    let all = every-holds (merge_conditions g first second) none in
    let three = and_first (nat_lt first (length g.vertices) && nat_lt second (length g.vertices) && not (first == second)) _ all.0 in
    let two = and_first (nat_lt first (length g.vertices) && nat_lt second (length g.vertices)) _ three in
    let (place, at, leads) = led-at (vertex_at g first) second (and_second (nat_lt first (length g.vertices) && nat_lt second (length g.vertices) && not (first == second)) _ all.0) in
    record {
      there = ltb-true first (length g.vertices) (and_first (nat_lt first (length g.vertices)) _ two);
      second_there = ltb-true second (length g.vertices) (and_second (nat_lt first (length g.vertices)) _ two);
      apart = not-true (first == second) (and_second (nat_lt first (length g.vertices) && nat_lt second (length g.vertices)) _ three);
      place = place;
      at = at;
      leads = leads;
      unwatched = not-true _ all.1.1.1.0;
    }

module _ (g : EventGraph) (first second : ℕ) (j : Joined g first second) (all : unreached g ≡ []) where
  abbrev h : EventGraph
  h = merged g first second

  abbrev a : EventVertex
  a = vertex_at g first

  abbrev b : EventVertex
  b = vertex_at g second

  long : length h.vertices ≡ length g.vertices
  long = length_placed (merged_with b) first g.vertices

  elsewhere : (k : ℕ) → (k == first) ≡ false → vertex_at h k ≡ vertex_at g k
  elsewhere k apart = placed-elsewhere (merged_with b) first k g.vertices no_vertex apart

  edges-here : (vertex_at h first).edges ≡ remove a.edges j.place ++ b.edges
  edges-here =
      ap (λ (v : EventVertex). v.edges) (placed-there (merged_with b) first g.vertices no_vertex j.there)
      ∙ ap (λ o. (option_map_or (merged_vertex b (values_at_once a) a) o a).edges) j.at

  takes-over : (e : EventEdge) → Among e b.edges → Among e (vertex_at h first).edges
  takes-over e there = subst (λ es. Among e es) (sym edges-here) (among-back (remove a.edges j.place) b.edges e there)

  -- ---- all but the second one can be reached

  -- it can be reached, or it is the second one, and the first one can be
  abbrev Still : ℕ → Type 0
  Still k = Reachable h k ⊎ ((k ≡ second) × Reachable h first)

  still-over : (v : ℕ) (e : EventEdge) → Among e (vertex_at g v).edges → Still v → Still e.target
  still-over v e there (inr (is, reached)) = inl (reach_over first e reached (contained-among (vertex_at h first).edges e (takes-over e (subst (λ v. Among e (vertex_at g v).edges) is there))))
  still-over v e there (inl reached) = by (apart-or-same v first) where
    at-first : v ≡ first → (slice_get a.edges j.place ≡ Some e) ⊎ Among e (remove a.edges j.place) → Still e.target
    at-first is (inl at) = inr (j.leads e at, subst (Reachable h) is reached)
    at-first is (inr left) =
        inl (reach_over first e (subst (Reachable h) is reached) (contained-among (vertex_at h first).edges e (subst (λ es. Among e es) (sym edges-here) (among-front (remove a.edges j.place) b.edges e left))))

    by : (v ≡ first) ⊎ ((v == first) ≡ false) → Still e.target
    by (inl is) = at-first is (among-left a.edges j.place e (subst (λ v. Among e (vertex_at g v).edges) is there))
    by (inr apart) = inl (reach_over v e reached (contained-among (vertex_at h v).edges e (subst (λ (w : EventVertex). Among e w.edges) (sym (elsewhere v apart)) there)))

  still : {k : ℕ} → Reachable g k → Still k
  still reach_first = inl reach_first
  still (reach_watched vertex contains) = inl (reach_watched vertex contains)
  still (reach_over v e before contains) = still-over v e (among-contained (vertex_at g v).edges e contains) (still before)

  -- each vertex could be reached
  was : (k : ℕ) → k < length g.vertices → Reachable g k
  was k below = reached_marks-reachable g k (marked_all (reached_marks g) k all (omega (arith, below, reached_marks-long g)))

  reached : (k : ℕ) → k < length g.vertices → (k == second) ≡ false → Reachable h k
  reached k below apart = by (still (was k below)) where
    by : Still k → Reachable h k
    by (inl reached) = reached
    by (inr (is, r)) = absurd (eqb-false k second apart is)

  marked : (k : ℕ) → k < length g.vertices → Reachable h k → Marked (reached_marks h) k
  marked k below r = reachable-marked h (reached_marks h) (reached_marks-hold h) r (omega (arith, below, long))

  -- ---- the second one can be, where it is the first vertex or an edge leads there

  every-marked : Reachable h second → unreached h ≡ []
  every-marked r = none_unmarked (reached_marks h) (λ k below. by k (omega (arith, below, reached_marks-long h, long)) (apart-or-same k second)) where
    by : (k : ℕ) → k < length g.vertices → (k ≡ second) ⊎ ((k == second) ≡ false) → Marked (reached_marks h) k
    by k below (inl is) = marked k below (subst (Reachable h) (sym is) r)
    by k below (inr apart) = marked k below (reached k below apart)

  pub all-if-first : second ≡ 0 → unreached h ≡ []
  all-if-first is = every-marked (subst (Reachable h) (sym is) reach_first)

  abbrev led : Bool
  led = list_any (λ (v : EventVertex). list_any (leads_to second) v.edges) h.vertices

  pub all-if-led : led ≡ true → unreached h ≡ []
  all-if-led is = every-marked (by (any-among (λ (v : EventVertex). list_any (leads_to second) v.edges) h.vertices is)) where
    from : (k : ℕ) (e : EventEdge) → Among e (vertex_at h k).edges → e.target ≡ second → k < length g.vertices → (k ≡ second) ⊎ ((k == second) ≡ false) → Reachable h second
    from k e there leads below (inr apart) = subst (Reachable h) leads (reach_over k e (reached k below apart) (contained-among (vertex_at h k).edges e there))
    from k e there leads below (inl is) =
        let own : Among e b.edges = subst (λ (w : EventVertex). Among e w.edges) (elsewhere second (apart-turned first second j.apart)) (subst (λ k. Among e (vertex_at h k).edges) is there) in
        subst (Reachable h) leads (reach_over first e (reached first j.there j.apart) (contained-among (vertex_at h first).edges e (takes-over e own)))

    by : (v : EventVertex) × Among v h.vertices × (list_any (leads_to second) v.edges ≡ true) → Reachable h second
    by (v, among, some) =
        let (k, at) = among-at h.vertices v among in
        let (e, there, leads) = any-among (leads_to second) v.edges some in
        let there_too : Among e (vertex_at h k).edges = subst (λ (w : EventVertex). Among e w.edges) (sym at) there in
        from k e there_too (eqb-true e.target second leads) (omega (arith, has_edges h.vertices k e there_too, long)) (apart-or-same k second)

  -- ---- and else it is the only one that can't

  among-watch : (watch : List Watched) (k : ℕ) → Among (WatchedVertex k) watch → list_any (watches k) watch ≡ true
  among-watch watch k there = among-any (watches k) watch (WatchedVertex k) there (same_number k k refl)

  never : (second ≡ 0 → ⊥) → led ≡ false → {k : ℕ} → Reachable h k → k ≡ second → ⊥
  never later unled reach_first is = later (sym is)
  never later unled (reach_watched vertex contains) is =
      let watched : is_watched_vertex g second ≡ true = among-watch g.watch second (subst (λ k. Among (WatchedVertex k) g.watch) is (among-contained g.watch (WatchedVertex vertex) contains)) in
      let no : true ≡ false = sym watched ∙ j.unwatched in cc
  never later unled (reach_over v e before contains) is =
      let there = among-contained (vertex_at h v).edges e contains in
      let leads : led ≡ true =
      among-any (λ (v : EventVertex). list_any (leads_to second) v.edges) h.vertices (vertex_at h v) (at-among h.vertices v (has_edges h.vertices v e there))
      (among-any (leads_to second) (vertex_at h v).edges e there (same_number e.target second is)) in
      let no : true ≡ false = sym leads ∙ unled in cc

  pub one-if-unled : (second ≡ 0 → ⊥) → led ≡ false → unreached h ≡ second ∷ []
  one-if-unled later unled = one_unmarked (reached_marks h) second (omega (arith, j.second_there, reached_marks-long h, long)) unmarked
      (λ k below apart. let within : k < length g.vertices = omega (arith, below, reached_marks-long h, long) in marked k within (reached k within apart)) where
        unmarked : is_marked (reached_marks h) second ≡ false
        unmarked = by (cases_Bool (is_marked (reached_marks h) second)) where
          by : (is_marked (reached_marks h) second ≡ true) ⊎ (is_marked (reached_marks h) second ≡ false) → is_marked (reached_marks h) second ≡ false
          by (inl marked) = absurd (never later unled (reached_marks-reachable h second marked) refl)
          by (inr unmarked) = unmarked
