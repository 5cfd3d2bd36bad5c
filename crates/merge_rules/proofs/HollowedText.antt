-- The result of a merge whose second vertex stays or gives its changes and edges away: its text, and that it is single urgent.
use Rattle.std.proofs.Common.{◌≡◌, ◌⊎◌, inl, inr, ℕ, zero, suc, ◌+◌, ◌<◌, ◌≤◌, ◌==◌, ◌-◌, nat_lt, true, false, not, ◌&&◌, ◌||◌, List, [], ◌∷◌, length, min, slice_index_or, slice_set, None, refl, sym, ◌∙◌, ap, arith, length-append}
use Rattle.std.specs.List.{list_any, flat_map}
use Rattle.std.proofs.lemmas.Bool.{not-true}
use Rattle.std.proofs.lemmas.List.{set-get_or}
use Rattle.sig_base.specs.declared.limits.TheConstants.{TEXT_MAX, PARAMETERS_MAX_VERSION_1}
use Rattle.model_core.specs.EventGraph.{EventGraph, EventVertex, has_drawn_delay}
use Rattle.model_core.specs.Run.Step.{vertex_at, no_vertex}
use Rattle.model_core.specs.Text.Canonical.{canonical, change_line, edge_line}
use Rattle.model_core.specs.Text.VersionNeeded.{is_large_array, has_many_targets, has_later_parts, needs_version_two}
use Rattle.model_core.specs.Rules.Conditions.{first_failed}
use Rattle.model_core.specs.Rules.PlacedEdges.{with_place}
use Rattle.model_core.specs.Rules.UrgentEdges.{single_urgent}
use Rattle.model_core.specs.Rules.Merge.{values_at_once, merged_with, merged, merge_conditions}
use Rattle.model_core.proofs.AllHold.{every-holds}
use Rattle.model_core.proofs.Among.{either_true, first_true, second_true}
use Rattle.model_core.proofs.BothTrue.{and_first, and_second}
use Rattle.model_core.proofs.PlacesChanged.{length_placed, placed-elsewhere, placed-there, suc-apart, apart-turned}
use Rattle.vertex_laws.specs.BodyLines.{body_lines}
use Rattle.merge_rules.specs.Growth.{bytes_leaving}
use Rattle.merge_rules.specs.Hollowed.{hollow, hollowed, second_after_merge, merged_leaving}
use Rattle.merge_rules.specs.declared.taking_over.SecondVertex.{SecondVertex}
use Rattle.merge_rules.specs.declared.taking_over.SecondVertex.TheVariants as seconds
use Rattle.merge_rules.proofs.OneStepForTwo.MergeHolds.{conditions_hold, first_there, is_below}
use Rattle.vertex_laws.proofs.ApartVertices.{apart_placed}
use Rattle.merge_rules.proofs.SingleUrgentModels.SingleKept.{merged_single}
use Rattle.merge_rules.proofs.ConditionsAsked.PairsFound.{counted_whole}
use Rattle.mark_laws.proofs.MarksBelow.{same_mark}
use Rattle.vertex_laws.proofs.NeededVersion.{gained}
use Rattle.merge_rules.proofs.MergedText.VersionMerged.{joined-late, at_place, needed-merged}
use Rattle.vertex_laws.proofs.ChangedLines.{lines_length, changed_length, body_elsewhere}
use Rattle.merge_rules.proofs.MergedText.GrownTexts.{there-is}
use Rattle.merge_rules.proofs.MergedText.LimitsTested.{with_merged}
use Rattle.vertex_laws.proofs.MergedNames.{name_stays}

-- the two are two
pub two_apart : (g : EventGraph) (first second : ℕ) → first_failed (merge_conditions g first second) ≡ None → (first == second) ≡ false
two_apart g first second none =
    let all = every-holds (merge_conditions g first second) none in
    let three = and_first (nat_lt first (length g.vertices) && nat_lt second (length g.vertices) && not (first == second)) _ all.0 in
    not-true (first == second) (and_second (nat_lt first (length g.vertices) && nat_lt second (length g.vertices)) _ three)

-- two places are changed, in any order
pub placed-twice : {A : Type 0} (f h : A → A) (j k : ℕ) (xs : List A) → (j == k) ≡ false → with_place f j (with_place h k xs) ≡ with_place h k (with_place f j xs)
placed-twice f h j k [] apart = refl
placed-twice f h zero zero (x ∷ xs) apart = cc
placed-twice f h zero (suc k) (x ∷ xs) apart = refl
placed-twice f h (suc j) zero (x ∷ xs) apart = refl
placed-twice f h (suc j) (suc k) (x ∷ xs) apart = ap (λ ys. x ∷ ys) (placed-twice f h j k xs (suc-apart j k apart))

-- the value of a function at an element is set in its place
pub set_is : {A : Type 0} (f : A → A) (xs : List A) (k : ℕ) (x d : A) → x ≡ f (slice_index_or xs k d) → slice_set xs k x ≡ with_place f k xs
set_is f [] k x d is = refl
set_is f (y ∷ xs) zero x d is = ap (λ z. z ∷ xs) is
set_is f (y ∷ xs) (suc k) x d is = ap (λ ys. y ∷ ys) (set_is f xs k x d is)

-- what is left of the second vertex is set in its place, and the first one takes over what it did
pub left_set : (left : SecondVertex) (g : EventGraph) (first second : ℕ) (x : EventVertex) → (first == second) ≡ false → x ≡ second_after_merge left (vertex_at g second)
    → record g { vertices = with_place (merged_with (vertex_at g second)) first (slice_set g.vertices second x) } ≡ merged_leaving left g first second
left_set seconds.Stays g first second x apart is =
    ap (λ (vs : List EventVertex). record g { vertices = with_place (merged_with (vertex_at g second)) first vs }) (ap (slice_set g.vertices second) is ∙ set-get_or g.vertices second no_vertex)
left_set seconds.GivesAway g first second x apart is =
    ap (λ (vs : List EventVertex). record g { vertices = vs })
    (ap (with_place (merged_with (vertex_at g second)) first) (set_is hollow g.vertices second x no_vertex is) ∙ placed-twice (merged_with (vertex_at g second)) hollow first second g.vertices apart)

-- ---- the version of the text

hollow-late : (v : EventVertex) → has_later_parts (hollow v) ≡ true → has_later_parts v ≡ true
hollow-late v e =
    let many = nat_lt PARAMETERS_MAX_VERSION_1 (length v.parameters) in
    elim (either_true (many || false) false e) [
      | inl h ↦ elim (either_true many false h) [
        | inl i ↦ first_true (many || list_any has_many_targets v.changes) (list_any has_drawn_delay v.edges) (first_true many (list_any has_many_targets v.changes) i)
        | inr i ↦ cc
      ]
      | inr h ↦ cc
    ]

-- where one of the vertices needs a later version, it is the one at a place, or one still does once that is changed
left-late : (f : EventVertex → EventVertex) (k : ℕ) (vs : List EventVertex) → list_any has_later_parts vs ≡ true → (has_later_parts (slice_index_or vs k no_vertex) ≡ true) ⊎ (list_any has_later_parts (with_place f k vs) ≡ true)
left-late f k [] e = inr e
left-late f zero (v ∷ vs) e = elim (either_true (has_later_parts v) (list_any has_later_parts vs) e) [
  | inl h ↦ inl h
  | inr h ↦ inr (second_true (has_later_parts (f v)) (list_any has_later_parts vs) h)
]
left-late f (suc k) (v ∷ vs) e = elim (either_true (has_later_parts v) (list_any has_later_parts vs) e) [
  | inl h ↦ inr (first_true (has_later_parts v) (list_any has_later_parts (with_place f k vs)) h)
  | inr h ↦ elim (left-late f k vs h) [ inl i ↦ inl i | inr i ↦ inr (second_true (has_later_parts v) (list_any has_later_parts (with_place f k vs)) i) ]
]

module _ (g : EventGraph) (first second : ℕ) (none : first_failed (merge_conditions g first second) ≡ None) where
  abbrev h : EventGraph
  h = merged g first second

  abbrev b : EventVertex
  b = vertex_at g second

  pub second_there : second < length h.vertices
  second_there = let below = is_below second (length g.vertices) (conditions_hold g first second none).target_exists in omega (arith, below, length_placed (merged_with b) first g.vertices)

  pub second_stays : vertex_at h second ≡ b
  second_stays = placed-elsewhere (merged_with b) first second g.vertices no_vertex (apart-turned first second (two_apart g first second none))

  -- the first needs what the second did
  first-late : has_later_parts b ≡ true → list_any has_later_parts (with_place hollow second h.vertices) ≡ true
  first-late late =
      let p = (conditions_hold g first second none).edge in
      at_place (with_place hollow second h.vertices) first
      (ap has_later_parts (placed-elsewhere hollow second first h.vertices no_vertex (two_apart g first second none) ∙ placed-there (merged_with b) first g.vertices no_vertex (first_there g first second none) ∙ with_merged b (vertex_at g first) p.place p.is)
      ∙ joined-late b (vertex_at g first) (values_at_once (vertex_at g first)) p.place p.is
      ∙ second_true (has_later_parts (vertex_at g first)) (has_later_parts b) late)

  needed-stays : needs_version_two (hollowed h second) ≡ needs_version_two h
  needed-stays = ap (λ late. list_any is_large_array g.variables || late) (same_mark (list_any has_later_parts (with_place hollow second h.vertices)) (list_any has_later_parts h.vertices)
      (λ e. elim (gained hollow false second h.vertices (λ v there late. inl (hollow-late v late)) e) [ inl i ↦ i | inr i ↦ cc ])
      (λ e. elim (left-late hollow second h.vertices e) [ inl i ↦ first-late (sym (ap has_later_parts second_stays) ∙ i) | inr i ↦ i ]))

  pub version_left : (left : SecondVertex) → needs_version_two (merged_leaving left g first second) ≡ needs_version_two g
  version_left seconds.Stays = needed-merged g first second
  version_left seconds.GivesAway = needed-stays ∙ needed-merged g first second

  -- ---- its length

  second_body : body_lines h (vertex_at h second) ≡ body_lines g b
  second_body = body_elsewhere g (merged_with b) (name_stays b) first second (apart-turned first second (two_apart g first second none))

  -- the lines of what it did are gone
  body-gone : length (canonical (hollowed h second)) + length (body_lines h (vertex_at h second)) ≡ length (canonical h)
  body-gone =
      let v = vertex_at h second in
      let changed = changed_length h hollow (λ x. refl) second needed-stays v (there-is h.vertices second no_vertex second_there) in
      let old = lines_length h v in
      let new = lines_length h (hollow v) in
      let body = length-append (flat_map (change_line h) v.changes) (flat_map (edge_line h) v.edges) in
      omega (arith, changed, old, new, body)

  leaving_text : (left : SecondVertex) → length (canonical (merged_leaving left g first second)) + bytes_leaving left (length (body_lines g b)) ≡ length (canonical h)
  leaving_text seconds.Stays = omega arith
  leaving_text seconds.GivesAway = let same = ap length second_body in omega (arith, body-gone, same)

  -- what the second gave away is counted to its end, as a part of a text that is
  pub leaving_measured : (left : SecondVertex) (top bytes body gone : ℕ) → TEXT_MAX < top → bytes ≡ min (length (canonical h)) top → body ≡ min (length (body_lines g b)) top → gone ≡ bytes_leaving left body
      → (gone ≤ bytes) × (bytes - gone ≡ length (canonical (merged_leaving left g first second)))
  leaving_measured left top bytes body gone beyond is body_is gone_is = by left gone_is (leaving_text left) where
    exact : bytes ≡ length (canonical h)
    exact = counted_whole g first second top bytes none beyond is

    by : (left : SecondVertex) → gone ≡ bytes_leaving left body → length (canonical (merged_leaving left g first second)) + bytes_leaving left (length (body_lines g b)) ≡ length (canonical h)
        → (gone ≤ bytes) × (bytes - gone ≡ length (canonical (merged_leaving left g first second)))
    by seconds.Stays gone_is whole = (omega (arith, gone_is), omega (arith, exact, gone_is))
    by seconds.GivesAway gone_is whole = (omega (arith, exact, whole, is, body_is, gone_is), omega (arith, exact, whole, is, body_is, gone_is))

  -- how many bytes what is left of the second does has
  pub leaving_body : (left : SecondVertex) (top body gone : ℕ) → body ≡ min (length (body_lines g b)) top → gone ≡ bytes_leaving left body
      → let result = merged_leaving left g first second in (gone ≤ body) × (body - gone ≡ min (length (body_lines result (vertex_at result second))) top)
  leaving_body seconds.Stays top body gone is gone_is = let same = ap length second_body in (omega (arith, gone_is), omega (arith, is, same, gone_is))
  leaving_body seconds.GivesAway top body gone is gone_is =
      let none = ap length (ap (body_lines (hollowed h second)) (placed-there hollow second h.vertices no_vertex second_there)) in
      (omega (arith, gone_is), omega (arith, none, gone_is))

  -- ---- single urgent

  pub leaving_single : (left : SecondVertex) → single_urgent (merged_leaving left g first second) ≡ true
  leaving_single seconds.Stays = merged_single g first second none
  leaving_single seconds.GivesAway = apart_placed h hollow second h.vertices refl (merged_single g first second none)
