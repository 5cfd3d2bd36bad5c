-- Each application after the rules of edges leaves less, so the strategy ends: a drop fewer vertices, a merge fewer with
-- a plain urgent edge, a slice fewer variables.
use Rattle.std.proofs.Common.{◌≡◌, ℕ, zero, suc, ◌+◌, ◌<◌, ◌≤◌, ◌==◌, Bool, true, false, not, ◌&&◌, cond, List, [], ◌∷◌, map, length, Option, Some, None, is_some, refl, sym, ap, ap₂, ◌∙◌, subst, arith}
use Rattle.std.specs.Prelude.{filter, count_by}
use Rattle.std.specs.List.{AllByRecursion, position_from, range_with_len}
use Rattle.std.proofs.lemmas.List.{length-map}
use Rattle.std.proofs.lemmas.List.Sums.{sum_by-cons}
use Rattle.model_core.specs.EventGraph.{EventEdge, EventVertex, EdgeKind, Schedule, Urgent, CancelNext, CancelEqual, CancelAll, EventGraph}
use Rattle.model_core.specs.Static.Reading.{IsValid}
use Rattle.model_core.specs.Rules.Conditions.{first_failed}
use Rattle.model_core.specs.Rules.MarkedPlaces.{rank, marked_of, is_marked, unmarked_places}
use Rattle.model_core.specs.Rules.UrgentEdges.{is_urgent, is_urgent_kind, is_plain}
use Rattle.model_core.specs.Rules.Reached.{reached_marks, unreached}
use Rattle.model_core.specs.Rules.Drop.{is_nonempty_list, lists_exactly, drop_conditions, staying_marks, edge_renumbered, vertex_renumbered, dropped}
use Rattle.model_core.specs.Rules.Merge.{merge_conditions, merged, first_merge}
use Rattle.model_core.specs.Rules.Needed.{needed_at_once, needed_beside, needed_marks, unneeded}
use Rattle.model_core.specs.Rules.Slice.{slice_conditions, sliced_kind, sliced_edge, sliced_vertex, sliced}
use Rattle.model_core.specs.Rules.Reduction.{RuleApplication, applied, drop_of, merge_of, first_rule, Strategy}
use Rattle.mark_laws.proofs.EntailedMarks.{entailed_marks-long}
use Rattle.mark_laws.proofs.StayingMarks.{staying-unmarked, exactly-equal}
use Rattle.mark_laws.proofs.ReachedLong.{reached_marks-long}
use Rattle.model_core.proofs.AllHold.{every-holds}
use Rattle.model_core.proofs.RenumberedConditions.{literal-renumbered}
use Rattle.model_core.proofs.SomeOfAList.{some-few, some-marked_of}
use Rattle.merge_rules.specs.UrgentVertices.{has_plain, plain_count}
use Rattle.reducer.specs.Inner.LaterRules.{NoEdgeRule, MadeAndNoted, LeavesEdges}
use Rattle.reducer.proofs.FirstLaterRule.{unmarked-within, drop_made, drop_not_made, merge_holds, merge_made, merge_not_made, slice_made, slice_not_made, drop_is_made, merge_is_made, slice_is_made}
use Rattle.reducer.proofs.NoEdgeRuleAnew.{later_kept, none-applied}

-- ---- the measure

-- how many vertices, variables and vertices with a plain urgent edge there are
abbrev pub measure : EventGraph → ℕ
measure g = length g.vertices + length g.variables + plain_count g.vertices

abbrev counts : EventVertex → ℕ
counts v = cond (has_plain v) 1 0

count-cons : (v : EventVertex) (vs : List EventVertex) → count_by has_plain (v ∷ vs) ≡ counts v + count_by has_plain vs
count-cons v vs = sum_by-cons counts v vs

-- ---- edges changed one by one

module _ (f : EventEdge → EventEdge) (urgent_same : (e : EventEdge) → is_urgent (f e) ≡ is_urgent e) (plain_same : (e : EventEdge) → is_plain (f e) ≡ is_plain e) where
  count-same : (es : List EventEdge) → count_by is_urgent (map f es) ≡ count_by is_urgent es
  count-same [] = refl
  count-same (e ∷ es) =
      sum_by-cons (λ e. cond (is_urgent e) 1 0) (f e) (map f es)
      ∙ ap₂ (λ b n. cond b 1 0 + n) (urgent_same e) (count-same es)
      ∙ sym (sum_by-cons (λ e. cond (is_urgent e) 1 0) e es)

  position-same : (n : ℕ) (es : List EventEdge) → position_from is_plain n (map f es) ≡ position_from is_plain n es
  position-same n [] = refl
  position-same n (e ∷ es) = ap₂ (λ b o. cond b (Some n) o) (plain_same e) (position-same (n + 1) es)

  plain_urgent-same : (v w : EventVertex) → w.edges ≡ map f v.edges → has_plain w ≡ has_plain v
  plain_urgent-same v w is =
      ap (λ (es : List EventEdge). is_some (cond (count_by is_urgent es == 1) (position_from is_plain 0 es) None)) is
      ∙ ap₂ (λ n o. is_some (cond (n == 1) o None)) (count-same v.edges) (position-same 0 v.edges)

-- vertices changed one by one
count-map : (f : EventVertex → EventVertex) → ((v : EventVertex) → has_plain (f v) ≡ has_plain v) → (vs : List EventVertex) → count_by has_plain (map f vs) ≡ count_by has_plain vs
count-map f same [] = refl
count-map f same (v ∷ vs) = count-cons (f v) (map f vs) ∙ ap₂ (λ b n. cond b 1 0 + n) (same v) (count-map f same vs) ∙ sym (count-cons v vs)

-- ---- fewer elements

filtered_head : (test : ℕ → Bool) (xs : List ℕ) (k : ℕ) (ks : List ℕ) → filter test xs ≡ k ∷ ks → test k ≡ true
filtered_head test [] k ks e = cc
filtered_head test (x ∷ xs) k ks e = one (test x) refl e (filtered_head test xs k ks) where
  one : (b : Bool) → test x ≡ b → cond b (x ∷ filter test xs) (filter test xs) ≡ k ∷ ks → (filter test xs ≡ k ∷ ks → test k ≡ true) → test k ≡ true
  one true is e later = subst (λ x. test x ≡ true) (let same : x ≡ k = cc in same) is
  one false is e later = later e

marked_of-fewer : {A : Type 0} (marks : List Bool) (xs : List A) (k : ℕ) → k < length marks → length marks ≡ length xs → not (is_marked marks k) ≡ true → length (marked_of marks xs) < length xs
marked_of-fewer [] xs k below long e = absurd (omega (arith, below))
marked_of-fewer (b ∷ bs) [] k below long e = absurd (omega (arith, long))
marked_of-fewer (true ∷ bs) (x ∷ xs) zero below long e = cc
marked_of-fewer (false ∷ bs) (x ∷ xs) zero below long e = let few = some-few (some-marked_of bs xs) in omega (arith, few)
marked_of-fewer (b ∷ bs) (x ∷ xs) (suc k) below long e = one b (marked_of-fewer bs xs k (omega (arith, below)) (omega (arith, long)) e) where
  one : (b : Bool) → length (marked_of bs xs) < length xs → length (cond b (x ∷ marked_of bs xs) (marked_of bs xs)) < suc (length xs)
  one true few = omega (arith, few)
  one false few = omega (arith, few)

-- taking away what isn't marked, of which there is some, leaves fewer
taken_away : {A : Type 0} (marks : List Bool) (xs : List A) (k : ℕ) (ks : List ℕ) → length marks ≡ length xs → unmarked_places marks ≡ k ∷ ks → length (marked_of (staying_marks (k ∷ ks) (length xs)) xs) < length xs
taken_away marks xs k ks long is =
    let stays : staying_marks (k ∷ ks) (length xs) ≡ marks = ap₂ staying_marks (sym is) (sym long) ∙ staying-unmarked marks in
    let within = subst (AllByRecursion (λ k. k < length marks)) is (unmarked-within marks (length marks) refl) in
    subst (λ (bs : List Bool). length (marked_of bs xs) < length xs) (sym stays)
    (marked_of-fewer marks xs k within.0 long (filtered_head (λ k. not (is_marked marks k)) (range_with_len 0 (length marks)) k ks is))

-- ---- drop

renumbered-same : (f : ℕ → ℕ) (v : EventVertex) → has_plain (vertex_renumbered f v) ≡ has_plain v
renumbered-same f v = plain_urgent-same (edge_renumbered f) (λ e. refl) (λ e. refl) v (vertex_renumbered f v) refl

count-left : (marks : List Bool) (vs : List EventVertex) → count_by has_plain (marked_of marks vs) ≤ count_by has_plain vs
count-left [] vs = omega arith
count-left (b ∷ bs) [] = omega arith
count-left (b ∷ bs) (v ∷ vs) = one b (count-left bs vs) where
  one : (b : Bool) → count_by has_plain (marked_of bs vs) ≤ count_by has_plain vs → count_by has_plain (cond b (v ∷ marked_of bs vs) (marked_of bs vs)) ≤ count_by has_plain (v ∷ vs)
  one true few =
      let here = count-cons v vs in
      let there = count-cons v (marked_of bs vs) in
      omega (arith, few, here, there)
  one false few = let here = count-cons v vs in omega (arith, few, here)

drop_leaves_less : (g : EventGraph) (k : ℕ) (ks : List ℕ) → unreached g ≡ k ∷ ks → measure (dropped g (k ∷ ks)) < measure g
drop_leaves_less g k ks is =
    let marks = staying_marks (k ∷ ks) (length g.vertices) in
    let fewer = taken_away (reached_marks g) g.vertices k ks (reached_marks-long g) is in
    let long = length-map (marked_of marks g.vertices) (vertex_renumbered (rank marks)) in
    let same = count-map (vertex_renumbered (rank marks)) (renumbered-same (rank marks)) (marked_of marks g.vertices) in
    let few = count-left marks g.vertices in
    omega (arith, fewer, long, same, few)

-- ---- slice

urgently_same : (marks : List Bool) (k : EdgeKind) → is_urgent_kind (sliced_kind marks k) ≡ is_urgent_kind k
urgently_same marks (Schedule delay priority) = refl
urgently_same marks Urgent = refl
urgently_same marks CancelNext = refl
urgently_same marks CancelEqual = refl
urgently_same marks CancelAll = refl

slice_leaves_less : (g : EventGraph) (k : ℕ) (ks : List ℕ) → unneeded g ≡ k ∷ ks → measure (sliced g (k ∷ ks)) < measure g
slice_leaves_less g k ks is =
    let marks = staying_marks (k ∷ ks) (length g.variables) in
    let fewer = taken_away (needed_marks g) g.variables k ks (entailed_marks-long (length g.variables) (needed_at_once g) (needed_beside g)) is in
    let long = length-map g.vertices (sliced_vertex g marks) in
    let same = count-map (sliced_vertex g marks) (λ v. plain_urgent-same (sliced_edge g marks) (λ e. urgently_same marks e.kind) (λ e. ap₂ (λ a b. a && b) (urgently_same marks e.kind) (literal-renumbered (rank marks) e.condition)) v (sliced_vertex g marks v) refl) g.vertices in
    omega (arith, fewer, long, same)

-- ---- merge

-- the law that a merge takes a plain urgent edge
abbrev pub MergesTakeOne : Type 0
MergesTakeOne = (g : EventGraph) (first second : ℕ) → first_failed (merge_conditions g first second) ≡ None
    → (length (merged g first second).vertices ≡ length g.vertices) × (suc (plain_count (merged g first second).vertices) ≡ plain_count g.vertices)

merge_leaves_less : MergesTakeOne → (g : EventGraph) (first second : ℕ) → first_failed (merge_conditions g first second) ≡ None → measure (merged g first second) < measure g
merge_leaves_less takes g first second holds =
    let (long, fewer) = takes g first second holds in
    omega (arith, long, fewer)

-- ---- any application after the rules of edges

listed : (ks others : List ℕ) → first_failed (is_nonempty_list ks ∷ lists_exactly ks others ∷ []) ≡ None → (k : ℕ) × (rest : List ℕ) × (ks ≡ k ∷ rest) × (others ≡ k ∷ rest)
listed [] others holds = cc
listed (k ∷ rest) others holds = (k, rest, refl, sym (exactly-equal (k ∷ rest) others (every-holds (is_nonempty_list (k ∷ rest) ∷ lists_exactly (k ∷ rest) others ∷ []) holds).1.0))

dropped_less : (g : EventGraph) (ks : List ℕ) → first_failed (drop_conditions g ks) ≡ None → measure (dropped g ks) < measure g
dropped_less g ks holds =
    let (k, rest, is, unreached_is) = listed ks (unreached g) holds in
    subst (λ (ks : List ℕ). measure (dropped g ks) < measure g) (sym is) (drop_leaves_less g k rest unreached_is)

sliced_less : (g : EventGraph) (ks : List ℕ) → first_failed (slice_conditions g ks) ≡ None → measure (sliced g ks) < measure g
sliced_less g ks holds =
    let (k, rest, is, unneeded_is) = listed ks (unneeded g) holds in
    subst (λ (ks : List ℕ). measure (sliced g ks) < measure g) (sym is) (slice_leaves_less g k rest unneeded_is)

pub applied_leaves_less : MergesTakeOne → (g h : EventGraph) (a : RuleApplication) → NoEdgeRule g → first_rule g ≡ Some a → applied g a ≡ Some h → measure h < measure g
applied_leaves_less takes g h a none is made = later_kept g h a (λ h. measure h < measure g) none is (dropped_less g) (merge_leaves_less takes g) (sliced_less g) made

-- ---- the end

-- the strategy has a result
abbrev Ended : EventGraph → Type 0
Ended g = (later : List RuleApplication) × (h : EventGraph) × Strategy g later h

module _ (one_valid : (g h : EventGraph) (a : RuleApplication) → IsValid g → applied g a ≡ Some h → IsValid h) (leaves : LeavesEdges) (takes : MergesTakeOne) where
  -- one application, where there is one
  module _ (fuel : ℕ) (go : (h : EventGraph) → measure h < fuel → IsValid h → NoEdgeRule h → Ended h) (g : EventGraph) (below : measure g < suc fuel) (valid : IsValid g) (none : NoEdgeRule g) where
    goes_on : (h : EventGraph) → measure h < measure g → (after : List RuleApplication) → MadeAndNoted (first_rule g) true g h [] after → Ended g
    goes_on h less after (a, is, made, noted) =
        let (later, k, rest) = go h (omega (arith, below, less)) (one_valid g h a valid made) (none-applied leaves g h a valid none is made) in (a ∷ later, k, (is, h, made, rest))

    abbrev NoDrop : Type 0
    NoDrop = MadeAndNoted (drop_of g (unreached g)) false g g [] []

    abbrev NoMerge : Type 0
    NoMerge = MadeAndNoted (merge_of g (first_merge g)) false g g [] []

    slices : NoDrop → NoMerge → (ks : List ℕ) → unneeded g ≡ ks → Ended g
    slices no_drop no_merge [] is = ([], g, ((slice_is_made g g g g [] [] [] [] none false false refl refl no_drop no_merge false (slice_not_made g g [] [] [] refl (sym is) refl refl)).0, refl))
    slices no_drop no_merge (k ∷ ks) is = goes_on (sliced g (k ∷ ks)) (slice_leaves_less g k ks is) _ (slice_is_made g g g (sliced g (k ∷ ks)) [] [] [] _ none false false refl refl no_drop no_merge true (slice_made g (sliced g (k ∷ ks)) (k ∷ ks) [] _ valid (λ e. cc) (sym is) refl refl))

    merges : NoDrop → (o : Option (ℕ × ℕ)) → first_merge g ≡ o → Ended g
    merges no_drop None is = slices no_drop (merge_not_made g g [] [] is refl refl) (unneeded g) refl
    merges no_drop (Some (first, second)) is = goes_on (merged g first second) (merge_leaves_less takes g first second (merge_holds g first second is)) _ (merge_is_made g g (merged g first second) [] [] _ none false true refl refl no_drop (merge_made g (merged g first second) first second [] _ valid is refl refl))

    drops : (ks : List ℕ) → unreached g ≡ ks → Ended g
    drops [] is = merges (drop_not_made g g [] [] [] refl (sym is) refl refl) (first_merge g) refl
    drops (k ∷ ks) is = goes_on (dropped g (k ∷ ks)) (drop_leaves_less g k ks is) _ (drop_is_made g (dropped g (k ∷ ks)) [] _ none true refl (drop_made g (dropped g (k ∷ ks)) (k ∷ ks) [] _ valid (λ e. cc) (sym is) refl refl))

  ends_within : (fuel : ℕ) (g : EventGraph) → measure g < fuel → IsValid g → NoEdgeRule g → Ended g
  ends_within zero g below valid none = absurd (omega (arith, below))
  ends_within (suc fuel) g below valid none = drops fuel (ends_within fuel) g below valid none (unreached g) refl

  pub later_rules_end : (g : EventGraph) → IsValid g → NoEdgeRule g → Ended g
  later_rules_end g valid none = ends_within (suc (measure g)) g (omega arith) valid none
