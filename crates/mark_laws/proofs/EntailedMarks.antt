-- The places that are marked by passes over pairs are those that are entailed.
use Rattle.std.proofs.Common.{◌≡◌, ◌⊎◌, inl, inr, ℕ, zero, suc, ◌<◌, ◌==◌, Bool, true, ◌&&◌, ◌||◌, List, length, map, refl, sym, subst, arith, ◌∙◌}
use Rattle.std.specs.List.{range_with_len}
use Rattle.std.proofs.lemmas.List.FromFn.{length-map-range_with_len}
use Rattle.std.proofs.lemmas.Bool.{and_from, and_parts, eqb-true}
use Rattle.model_core.specs.Rules.MarkedPlaces.{is_marked, is_among, passes}
use Rattle.model_core.specs.Rules.Entailed.{is_entailed_by, one_pair_further, entailed_marks}
use Rattle.model_core.specs.Rules.LeastRelations.{Entailed, from_first, over_pair}
use Rattle.mark_laws.proofs.Marks.{Marked}
use Rattle.mark_laws.proofs.LeastSets.{Below, passes-close, passes-long}
use Rattle.model_core.proofs.PlacesChanged.{same_number}
use Rattle.model_core.proofs.Among.{Among, among-contained, contained-among, either_true, first_true, second_true, any-among, among-any}
use Rattle.mark_laws.proofs.MarksBelow.{marked-within, below-by_places, equal-by_places, tested-marked, marked-tested}

pub among-place : (places : List ℕ) (k : ℕ) → is_among places k ≡ true → Among k places
among-place places k e = let (j, among, is) = any-among (λ j. j == k) places e in subst (λ (i : ℕ). Among i places) (eqb-true j k is) among

pub place-among : (places : List ℕ) (k : ℕ) → Among k places → is_among places k ≡ true
place-among places k among = among-any (λ j. j == k) places k among (same_number k k refl)

pub entailed-by : (marks : List Bool) (pairs : List (ℕ × ℕ)) (k : ℕ) → is_entailed_by marks pairs k ≡ true → (j : ℕ) × Marked marks j × Among (j, k) pairs
entailed-by marks pairs k e =
    let ((i, j), among, passes) = any-among (λ ((i, j) : ℕ × ℕ). is_marked marks i && (j == k)) pairs e in
    let (marked, same) = and_parts (is_marked marks i) (j == k) passes in
    (i, marked, subst (λ (n : ℕ). Among (i, n) pairs) (eqb-true j k same) among)

pub by-entailed : (marks : List Bool) (pairs : List (ℕ × ℕ)) (j k : ℕ) → Marked marks j → Among (j, k) pairs → is_entailed_by marks pairs k ≡ true
by-entailed marks pairs j k marked among = among-any (λ ((i, n) : ℕ × ℕ). is_marked marks i && (n == k)) pairs (j, k) among (and_from (is_marked marks j) (k == k) marked (same_number k k refl))

-- ---- marks that hold the first places and are closed under the pairs

pub record HoldEntailed (count : ℕ) (first : List ℕ) (pairs : List (ℕ × ℕ)) (marks : List Bool) : Type 0 where
  pub begins : (k : ℕ) → Among k first → k < count → Marked marks k
  pub leads : (j k : ℕ) → Marked marks j → Among (j, k) pairs → k < count → Marked marks k

module _ (count : ℕ) (first : List ℕ) (pairs : List (ℕ × ℕ)) where
  pub entailed-below : {k : ℕ} → Entailed count first pairs k → k < count
  entailed-below (from_first k below contains) = below
  entailed-below (over_pair j k below before contains) = below

  pub entailed-marked : (marks : List Bool) → HoldEntailed count first pairs marks → {k : ℕ} → Entailed count first pairs k → Marked marks k
  entailed-marked marks ok (from_first k below contains) = ok.begins k (among-contained first k contains) below
  entailed-marked marks ok (over_pair j k below before contains) = ok.leads j k (entailed-marked marks ok before) (among-contained pairs (j, k) contains) below

  -- ---- one pass

  abbrev pass : List Bool → List Bool
  pass = one_pair_further pairs

  abbrev further : List Bool → ℕ → Bool
  further marks k = is_marked marks k || is_entailed_by marks pairs k

  pass-long : (marks : List Bool) → length (pass marks) ≡ length marks
  pass-long marks = length-map-range_with_len (further marks) 0 (length marks)

  pass-keeps : (marks : List Bool) (k : ℕ) → Marked marks k → Marked (pass marks) k
  pass-keeps marks k marked = tested-marked (further marks) (length marks) k (marked-within marks k marked) (first_true (is_marked marks k) (is_entailed_by marks pairs k) marked)

  pass-grows : (marks : List Bool) → Below marks (pass marks)
  pass-grows marks = below-by_places marks (pass marks) (sym (pass-long marks)) (pass-keeps marks)

  passes-keep : (n : ℕ) (marks : List Bool) (k : ℕ) → Marked marks k → Marked (passes pass n marks) k
  passes-keep zero marks k marked = marked
  passes-keep (suc n) marks k marked = passes-keep n (pass marks) k (pass-keeps marks k marked)

  passes-entailed : (n : ℕ) (marks : List Bool) → length marks ≡ count → ((k : ℕ) → Marked marks k → Entailed count first pairs k) → (k : ℕ) → Marked (passes pass n marks) k → Entailed count first pairs k
  passes-entailed zero marks long entails k marked = entails k marked
  passes-entailed (suc n) marks long entails k marked = passes-entailed n (pass marks) (pass-long marks ∙ long) next k marked where
    next : (k : ℕ) → Marked (pass marks) k → Entailed count first pairs k
    next k marked = by (either_true (is_marked marks k) (is_entailed_by marks pairs k) (marked-tested (further marks) (length marks) k marked)) where
      by : (is_marked marks k ≡ true) ⊎ (is_entailed_by marks pairs k ≡ true) → Entailed count first pairs k
      by (inl before) = entails k before
      by (inr led) =
          let (j, from, among) = entailed-by marks pairs k led in
          over_pair j k (omega (arith, marked-within (pass marks) k marked, pass-long marks, long)) (entails j from) (contained-among pairs (j, k) among)

  abbrev beginnings : List Bool
  beginnings = map (is_among first) (range_with_len 0 count)

  beginnings-long : length beginnings ≡ count
  beginnings-long = length-map-range_with_len (is_among first) 0 count

  pub entailed_marks-long : length (entailed_marks count first pairs) ≡ count
  entailed_marks-long = passes-long pass pass-long (length beginnings) beginnings ∙ beginnings-long

  pub entailed_marks-entailed : (k : ℕ) → Marked (entailed_marks count first pairs) k → Entailed count first pairs k
  entailed_marks-entailed = passes-entailed (length beginnings) beginnings beginnings-long (λ k marked.
      from_first k (omega (arith, marked-within beginnings k marked, beginnings-long)) (contained-among first k (among-place first k (marked-tested (is_among first) count k marked))))

  pub entailed_marks-hold : HoldEntailed count first pairs (entailed_marks count first pairs)
  entailed_marks-hold = record {
    begins = λ k among below. passes-keep (length beginnings) beginnings k (tested-marked (is_among first) count k below (place-among first k among));
    leads = λ j k marked among below.
        let marks = entailed_marks count first pairs in
        subst (λ (marks : List Bool). Marked marks k) (passes-close pass pass-grows beginnings)
        (tested-marked (further marks) (length marks) k (omega (arith, below, entailed_marks-long))
        (second_true (is_marked marks k) (is_entailed_by marks pairs k) (by-entailed marks pairs j k marked among)));
  }

  -- marks of the entailed places alone that are closed are these
  pub closed-entailed_marks : (marks : List Bool) → length marks ≡ count → ((k : ℕ) → Marked marks k → Entailed count first pairs k) → HoldEntailed count first pairs marks → marks ≡ entailed_marks count first pairs
  closed-entailed_marks marks long entails hold =
      equal-by_places marks (entailed_marks count first pairs) (long ∙ sym entailed_marks-long)
      (λ k marked. entailed-marked (entailed_marks count first pairs) entailed_marks-hold (entails k marked))
      (λ k marked. entailed-marked marks hold (entailed_marks-entailed k marked))

-- ---- other pairs that entail the same

-- where the first of each pair is entailed over other pairs, so is the second
pub record Implied (count : ℕ) (first : List ℕ) (pairs others : List (ℕ × ℕ)) : Type 0 where
  pub over : (j k : ℕ) → Among (j, k) pairs → k < count → Entailed count first others j → Entailed count first others k

pub entailed-implied : (count : ℕ) (first : List ℕ) (pairs others : List (ℕ × ℕ)) → Implied count first pairs others → {k : ℕ} → Entailed count first pairs k → Entailed count first others k
entailed-implied count first pairs others h (from_first k below contains) = from_first k below contains
entailed-implied count first pairs others h (over_pair j k below before contains) = h.over j k (among-contained pairs (j, k) contains) below (entailed-implied count first pairs others h before)

pub marks-implied : (count : ℕ) (first : List ℕ) (pairs others : List (ℕ × ℕ)) → Implied count first pairs others → Implied count first others pairs → entailed_marks count first pairs ≡ entailed_marks count first others
marks-implied count first pairs others to from =
    equal-by_places (entailed_marks count first pairs) (entailed_marks count first others) (entailed_marks-long count first pairs ∙ sym (entailed_marks-long count first others))
    (λ k marked. entailed-marked count first others (entailed_marks count first others) (entailed_marks-hold count first others) (entailed-implied count first pairs others to (entailed_marks-entailed count first pairs k marked)))
    (λ k marked. entailed-marked count first pairs (entailed_marks count first pairs) (entailed_marks-hold count first pairs) (entailed-implied count first others pairs from (entailed_marks-entailed count first others k marked)))
