-- Marks of more first places: which others entail the same, and where all places are marked already.
use Rattle.std.proofs.Common.{◌≡◌, ℕ, zero, suc, ◌<◌, Bool, true, false, ◌||◌, List, [], ◌∷◌, ◌++◌, length, refl, sym, ap, arith, ◌∙◌}
use Rattle.std.specs.List.{list_any}
use Rattle.std.proofs.lemmas.List.{length-append, nil_from_length}
use Rattle.model_core.specs.Rules.Entailed.{entailed_marks}
use Rattle.model_core.specs.Rules.LeastRelations.{Entailed, from_first, over_pair}
use Rattle.mark_laws.proofs.Marks.{Marked}
use Rattle.mark_laws.proofs.MarksBelow.{marked-within, equal-by_places}
use Rattle.mark_laws.proofs.EntailedMarks.{entailed-marked, entailed_marks-long, entailed_marks-entailed, entailed_marks-hold}
use Rattle.model_core.proofs.Among.{Among, among-contained, contained-among, among-front, first_true}

module _ (count : ℕ) (pairs : List (ℕ × ℕ)) where
  -- each of the first places that is one of so many is entailed by the others
  abbrev pub Covered : List ℕ → List ℕ → Type 0
  Covered first others = (k : ℕ) → k < count → Among k first → Entailed count others pairs k

  pub entailed-covered : (first others : List ℕ) → Covered first others → {k : ℕ} → Entailed count first pairs k → Entailed count others pairs k
  entailed-covered first others covered (from_first k below there) = covered k below (among-contained first k there)
  entailed-covered first others covered (over_pair j k below before there) = over_pair j k below (entailed-covered first others covered before) there

  pub marked-covered : (first others : List ℕ) → Covered first others → (k : ℕ) → Marked (entailed_marks count first pairs) k → Marked (entailed_marks count others pairs) k
  marked-covered first others covered k marked =
      entailed-marked count others pairs (entailed_marks count others pairs) (entailed_marks-hold count others pairs) (entailed-covered first others covered (entailed_marks-entailed count first pairs k marked))

  same-long : (first others : List ℕ) → length (entailed_marks count first pairs) ≡ length (entailed_marks count others pairs)
  same-long first others = entailed_marks-long count first pairs ∙ sym (entailed_marks-long count others pairs)

  pub marks-covered : (first others : List ℕ) → Covered first others → Covered others first → entailed_marks count first pairs ≡ entailed_marks count others pairs
  marks-covered first others to from =
      equal-by_places (entailed_marks count first pairs) (entailed_marks count others pairs) (same-long first others) (marked-covered first others to) (marked-covered others first from)

  pub front-covered : (first more : List ℕ) → Covered first (first ++ more)
  front-covered first more k below there = from_first k below (contained-among (first ++ more) k (among-front first more k there))

  -- where all places are marked, more at first mark no other
  pub marked-already : (first more : List ℕ) → ((k : ℕ) → k < length (entailed_marks count first pairs) → Marked (entailed_marks count first pairs) k) → entailed_marks count first pairs ≡ entailed_marks count (first ++ more) pairs
  marked-already first more all =
      equal-by_places (entailed_marks count first pairs) (entailed_marks count (first ++ more) pairs) (same-long first (first ++ more)) (marked-covered first (first ++ more) (front-covered first more))
      (λ k marked. all k (omega (arith, marked-within (entailed_marks count (first ++ more) pairs) k marked, same-long first (first ++ more))))

-- where a list is no longer once others were added, none were
pub none-more : {A : Type 0} (xs more all : List A) → all ≡ xs ++ more → length all ≡ length xs → more ≡ []
none-more xs more all are long = nil_from_length more (omega (arith, long, ap length are, length-append xs more))

-- where a test that finds what isn't marked finds nothing, all is marked
later-false : (a b : Bool) → (a || b) ≡ false → b ≡ false
later-false true b e = cc
later-false false b e = e

pub none-false : (test : Bool → Bool) (marks : List Bool) → list_any test marks ≡ false → test false ≡ true → (k : ℕ) → k < length marks → Marked marks k
none-false test [] none finds k below = absurd (omega arith)
none-false test (true ∷ bs) none finds zero below = refl
none-false test (true ∷ bs) none finds (suc k) below = none-false test bs (later-false (test true) (list_any test bs) none) finds k (omega arith)
none-false test (false ∷ bs) none finds k below = let no : true ≡ false = sym (first_true (test false) (list_any test bs) finds) ∙ none in cc
