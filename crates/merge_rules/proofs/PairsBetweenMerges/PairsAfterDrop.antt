-- What is kept of the vertices is right after one is dropped to which nothing leads, once that is noted.
use Rattle.std.proofs.Common.{◌≡◌, ℕ, zero, suc, ◌+◌, ◌-◌, ◌<◌, ◌==◌, nat_lt, Bool, true, false, cond, List, [], ◌∷◌, map, length, slice_get, slice_index_or, Option, Some, None, refl, sym, ◌∙◌, ap, ap₂, subst, arith}
use Rattle.std.specs.List.{AllByRecursion, remove, list_any}
use Rattle.std.specs.Option.{option_map, option_map_or, option_and_then}
use Rattle.std.proofs.lemmas.List.{length-map}
use Rattle.std.proofs.lemmas.Bool.Decides.{nat_tests}
use Rattle.model_core.specs.EventGraph.{EventGraph, EventVertex, EventEdge, Watched, WatchedVariable, WatchedVertex}
use Rattle.model_core.specs.Run.Step.{no_vertex, vertex_at}
use Rattle.model_core.specs.Run.History.{watches}
use Rattle.model_core.specs.Static.OwnRules.{IsWatchable, KeepsEdge, KeepsParts, parameters_of}
use Rattle.model_core.specs.Rules.Drop.{edge_renumbered, vertex_renumbered, only_marked, dropped}
use Rattle.model_core.specs.Rules.MarkedPlaces.{rank, marked_of, place_without}
use Rattle.model_core.specs.Rules.UrgentEdges.{plain_urgent}
use Rattle.model_core.specs.Rules.Merge.{leads_to, is_watched_vertex}
use Rattle.model_core.proofs.EachOne.{either_false, every-map}
use Rattle.model_core.proofs.Images.{at-map}
use Rattle.mark_laws.proofs.Marks.{Marked, rank-apart, rank-within, marked-placed, old_place}
use Rattle.static_laws.proofs.StaticTwins.DeclaredNames.{every_item}
use Rattle.run_laws.proofs.MappedVertices.{WatchedAreApart}
use Rattle.model_core.specs.Text.Canonical.{vertex_name}
use Rattle.merge_rules.specs.PairFits.{target_at_once, acts_unseen, pair_fits}
use Rattle.merge_rules.specs.Growth.{growth, pair_growth}
use Rattle.merge_rules.specs.declared.growth.Growth.{Growth}
use Rattle.merge_rules.specs.KeptPairs.{edges_leading, edges_to, has_incoming, FitIsRight, PairIsRight, PairsAreRight, no_pair}
use Rattle.merge_rules.specs.Inner.PairMoves.{with_fewer, edges_taken, moved_up}
use Rattle.merge_rules.specs.declared.kept_pairs.KeptPair.{KeptPair}
use Rattle.merge_rules.proofs.SingleUrgentModels.SingleUrgent.{edges_keep}
use Rattle.vertex_laws.proofs.ReadElement.{is_there}
use Rattle.merge_rules.proofs.PairsBetweenMerges.PairsMoved.{acts-alike, target-alike, fits-moved, unseen-stays}
use Rattle.merge_rules.proofs.PairsBetweenMerges.GrowthMoved.{growth-moved}
use Rattle.merge_rules.proofs.PairsBetweenMerges.LedPlaces.{leads_there, mapped-there, taken-long, taken-at, to-without}
use Rattle.merge_rules.proofs.PairsBetweenMerges.OneGone.{all_but, staying-but, marked-but, rank-but, left-but, left-long}

-- ---- what a model that keeps its rules names is there

-- a fact of the targets of all edges is one of that of the plain urgent edge
at-once : (P : ℕ → Type 0) (v : EventVertex) (t : ℕ) → AllByRecursion (λ (e : EventEdge). P e.target) v.edges → target_at_once v ≡ Some t → P t
at-once P v t all is = by (plain_urgent v) is where
  by : (o : Option ℕ) → option_map (λ (e : EventEdge). e.target) (option_and_then (slice_get v.edges) o) ≡ Some t → P t
  by None e = cc
  by (Some k) e = found (slice_get v.edges k) refl e where
    found : (o : Option EventEdge) → slice_get v.edges k ≡ o → option_map (λ (e : EventEdge). e.target) o ≡ Some t → P t
    found None at e = cc
    found (Some x) at e = subst P (let same : x.target ≡ t = cc in same) (every_item (λ (e : EventEdge). P e.target) v.edges k x all at)

-- the name of the vertex at a place
name-at : (vs : List EventVertex) (k : ℕ) → option_map_or (λ (v : EventVertex). v.name) (slice_get vs k) [] ≡ (slice_index_or vs k no_vertex).name
name-at [] k = refl
name-at (v ∷ vs) zero = refl
name-at (v ∷ vs) (suc k) = name-at vs k

-- edges of which none leads to a place
none-lead-at : (vs : List EventVertex) (gone k : ℕ) → leads_there vs gone ≡ false → list_any (leads_to gone) (slice_index_or vs k no_vertex).edges ≡ false
none-lead-at [] gone k none = refl
none-lead-at (v ∷ vs) gone zero none = (either_false (list_any (leads_to gone) v.edges) (leads_there vs gone) none).0
none-lead-at (v ∷ vs) gone (suc k) none = none-lead-at vs gone k (either_false (list_any (leads_to gone) v.edges) (leads_there vs gone) none).1

module _ (g : EventGraph) (keeps : KeepsParts g) (gone : ℕ) (there : gone < length g.vertices) (unled : has_incoming g gone ≡ false) (unwatched : is_watched_vertex g gone ≡ false) where
  abbrev n : ℕ
  n = length g.vertices

  abbrev marks : List Bool
  marks = all_but n gone

  abbrev f : ℕ → ℕ
  f = rank marks

  abbrev h : EventGraph
  h = only_marked g marks

  pub dropped-is : dropped g (gone ∷ []) ≡ h
  dropped-is = ap (only_marked g) (staying-but n gone)

  abbrev Live : ℕ → Type 0
  Live k = Marked marks k

  -- ---- what is named stays

  targets-there : (k : ℕ) → AllByRecursion (λ (e : EventEdge). e.target < n) (vertex_at g k).edges
  targets-there k =
      every-map (KeepsEdge g.variables (length g.tables) (parameters_of g)) (λ (e : EventEdge). e.target < n)
      (λ e keep. omega (arith, is_there (parameters_of g) e.target keep.parameters keep.target, length-map g.vertices (λ (v : EventVertex). v.parameters)))
      (vertex_at g k).edges (edges_keep g keeps k)

  both-live : (es : List EventEdge) → AllByRecursion (λ (e : EventEdge). e.target < n) es → list_any (leads_to gone) es ≡ false → AllByRecursion (λ (e : EventEdge). Live e.target) es
  both-live [] within none = tt
  both-live (e ∷ es) within none =
      let (here, later) = either_false (e.target == gone) (list_any (leads_to gone) es) none in
      (marked-but n gone e.target within.0 here, both-live es within.1 later)

  targets-live : (k : ℕ) → AllByRecursion (λ (e : EventEdge). Live e.target) (vertex_at g k).edges
  targets-live k = both-live (vertex_at g k).edges (targets-there k) (none-lead-at g.vertices gone k unled)

  watch-live : (watch : List Watched) → AllByRecursion (IsWatchable (length g.variables) n) watch → list_any (watches gone) watch ≡ false → AllByRecursion (WatchedAreApart Live) watch
  watch-live [] all none = tt
  watch-live (WatchedVariable v ∷ watch) all none = (tt, watch-live watch all.1 none)
  watch-live (WatchedVertex v ∷ watch) all none =
      let (here, later) = either_false (v == gone) (list_any (watches gone) watch) none in
      (marked-but n gone v all.0 here, watch-live watch all.1 later)

  placed : (k : ℕ) → Live k → vertex_at h (f k) ≡ vertex_renumbered f (vertex_at g k)
  placed k live = at-map (vertex_renumbered f) (marked_of marks g.vertices) (f k) no_vertex ∙ ap (vertex_renumbered f) (marked-placed marks g.vertices k no_vertex live)

  long : length h.vertices ≡ length (marked_of marks g.vertices)
  long = length-map (marked_of marks g.vertices) (vertex_renumbered f)

  within : (k : ℕ) → Live k → k < n → f k < length h.vertices
  within k live below = omega (arith, long, rank-within marks g.vertices k live below)

  both-below : (a b c d : ℕ) → a < b → c < d → nat_lt a b ≡ nat_lt c d
  both-below a b c d x y = grind (arith, nat_tests)

  fits-after : (k : ℕ) → Live k → k < n → pair_fits h (f k) ≡ pair_fits g k
  fits-after k live below =
      fits-moved g f h.vertices Live (λ x y a b. rank-apart marks x y a b) (watch-live g.watch keeps.watch unwatched) k live (targets-live k)
      (both-below (f k) (length h.vertices) k n (within k live below) below) (placed k live)
      (λ t is.
      let target_live = at-once Live (vertex_at g k) t (targets-live k) is in
      let target_there = at-once (λ t. t < n) (vertex_at g k) t (targets-there k) is in
      (target_live, both-below (f t) (length h.vertices) t n (within t target_live target_there) target_there, placed t target_live))

  -- ---- lines

  names-after : (k : ℕ) → Live k → vertex_name h (f k) ≡ vertex_name g k
  names-after k live = name-at h.vertices (f k) ∙ ap (λ (v : EventVertex). v.name) (placed k live) ∙ sym (name-at g.vertices k)

  acts-after : (k : ℕ) → Live k → acts_unseen h (vertex_at h (f k)) ≡ acts_unseen g (vertex_at g k)
  acts-after k live = ap (acts_unseen h) (placed k live) ∙ acts-alike g f h.vertices (vertex_at g k)

  growth-after : (k : ℕ) → Live k → growth h (f k) ≡ growth g k
  growth-after k live =
      growth-moved g f h.vertices Live names-after k (placed k live)
      (λ t is. let target_live = at-once Live (vertex_at g k) t (targets-live k) is in (target_live, placed t target_live, targets-live t))

  pair-growth-after : (k : ℕ) → Live k → k < n → pair_growth h (f k) ≡ pair_growth g k
  pair-growth-after k live below = ap₂ (λ fits (grows : Growth). cond fits (Some grows) None) (fits-after k live below) (growth-after k live)

  -- ---- counts

  leading-after : (es : List EventEdge) (k : ℕ) → Live k → AllByRecursion (λ (e : EventEdge). Live e.target) es → edges_leading (map (edge_renumbered f) es) (f k) ≡ edges_leading es k
  leading-after [] k live all = refl
  leading-after (e ∷ es) k live all = ap₂ (λ b m. cond b 1 0 + m) (rank-apart marks e.target k all.0 live) (leading-after es k live all.1)

  to-after : (vs : List EventVertex) (k : ℕ) → Live k → AllByRecursion (λ (v : EventVertex). AllByRecursion (λ (e : EventEdge). Live e.target) v.edges) vs → edges_to (map (vertex_renumbered f) vs) (f k) ≡ edges_to vs k
  to-after [] k live all = refl
  to-after (v ∷ vs) k live all = ap₂ (λ a b. a + b) (leading-after v.edges k live all.0) (to-after vs k live all.1)

  each-left : (P : EventVertex → Type 0) (marks : List Bool) (vs : List EventVertex) → ((k : ℕ) → P (slice_index_or vs k no_vertex)) → AllByRecursion P (marked_of marks vs)
  each-left P [] vs each = tt
  each-left P (b ∷ bs) [] each = tt
  each-left P (true ∷ bs) (v ∷ vs) each = (each 0, each-left P bs vs (λ k. each (suc k)))
  each-left P (false ∷ bs) (v ∷ vs) each = each-left P bs vs (λ k. each (suc k))

  edges-counted : (k : ℕ) → Live k → edges_to h.vertices (f k) ≡ edges_to g.vertices k - edges_leading (vertex_at g gone).edges k
  edges-counted k live =
      let left : edges_to h.vertices (f k) ≡ edges_to (remove g.vertices gone) k =
      to-after (marked_of marks g.vertices) k live (each-left (λ (v : EventVertex). AllByRecursion (λ (e : EventEdge). Live e.target) v.edges) marks g.vertices targets-live)
      ∙ ap (λ vs. edges_to vs k) (left-but g.vertices gone) in
      let whole = to-without g.vertices gone k there in
      omega (arith, left, whole)

  -- ---- what is kept

  module _ (pairs : List KeptPair) (are : PairsAreRight g pairs) where
    abbrev taken : List KeptPair
    taken = edges_taken (vertex_at g gone).edges pairs

    abbrev after : List KeptPair
    after = map (moved_up gone) (remove taken gone)

    taken_long : length taken ≡ n
    taken_long = taken-long (vertex_at g gone).edges pairs ∙ are.long

    left : remove taken gone ≡ marked_of marks taken
    left = sym (left-but taken gone) ∙ ap (λ m. marked_of (all_but m gone) taken) taken_long

    left_long : length (remove taken gone) ≡ length h.vertices
    left_long = ap length left ∙ left-long marks taken g.vertices taken_long ∙ sym long

    new_target : (o : Option ℕ) → ((t : ℕ) → o ≡ Some t → t < n) → option_map (place_without gone) o ≡ option_map f o
    new_target None below = refl
    new_target (Some t) below = ap Some (sym (rank-but n gone t (below t refl)))

    pair-after : (k : ℕ) → Live k → k < n → PairIsRight h (f k) (slice_index_or after (f k) no_pair)
    pair-after k live below =
        let was = are.each k below in
        let p = slice_index_or pairs k no_pair in
        let at : slice_index_or after (f k) no_pair ≡ moved_up gone (with_fewer (edges_leading (vertex_at g gone).edges k) p) =
        mapped-there (moved_up gone) (remove taken gone) (f k) no_pair (omega (arith, left_long, within k live below))
        ∙ ap (moved_up gone)
        (ap (λ ps. slice_index_or ps (f k) no_pair) left ∙ marked-placed marks taken k no_pair live ∙ taken-at (vertex_at g gone).edges pairs k (omega (arith, below, are.long))) in
        subst (PairIsRight h (f k)) (sym at) (record {
          target =
              ap (option_map (place_without gone)) was.target
              ∙ new_target (target_at_once (vertex_at g k)) (λ t is. at-once (λ t. t < n) (vertex_at g k) t (targets-there k) is)
              ∙ sym (target-alike f (vertex_at g k)) ∙ sym (ap target_at_once (placed k live));
          answer = subst (FitIsRight p.answer) (sym (pair-growth-after k live below)) was.answer;
          unseen = unseen-stays p.unseen g h _ _ (acts-after k live) was.unseen;
          incoming = ap (λ m. m - edges_leading (vertex_at g gone).edges k) was.incoming ∙ sym (edges-counted k live);
        })

    pub are-dropped : PairsAreRight (dropped g (gone ∷ [])) after
    are-dropped = subst (λ (h : EventGraph). PairsAreRight h after) (sym dropped-is) (record { long = length-map (remove taken gone) (moved_up gone) ∙ left_long; each = each }) where
      each : (i : ℕ) → i < length h.vertices → PairIsRight h i (slice_index_or after i no_pair)
      each i below =
          let (k, live, is, old) = old_place marks g.vertices i (omega (arith, below, long)) in
          subst (λ i. PairIsRight h i (slice_index_or after i no_pair)) is (pair-after k live old)
