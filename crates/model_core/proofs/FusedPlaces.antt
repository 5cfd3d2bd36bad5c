-- The place of a vertex once the one at `gone` is taken away and the one at `keep` replaces it.
use Rattle.std.proofs.Common.{◌≡◌, ◌⊎◌, inl, inr, ℕ, zero, suc, ◌-◌, ◌<◌, ◌==◌, nat_lt, Bool, true, false, cond, List, [], ◌∷◌, map, slice_get, slice_index_or, refl, sym, ◌∙◌, ap, ap₂, arith}
use Rattle.std.proofs.lemmas.Bool.Decides.{nat_tests}
use Rattle.std.specs.List.{remove}
use Rattle.model_core.specs.EventGraph.{EventEdge}
use Rattle.model_core.specs.Rules.Drop.{edge_renumbered}
use Rattle.model_core.specs.Rules.MarkedPlaces.{place_without}
use Rattle.model_core.specs.Rules.Fuse.{standing_for, fused_place}
use Rattle.model_core.proofs.PlacesChanged.{different, suc-apart, apart-turned}
use Rattle.model_core.proofs.PlacesTakenOff.{without-first, without-behind, get-without}

-- ---- without one place

below_without : (gone v : ℕ) → v < gone → place_without gone v ≡ v
below_without gone v below = ap (λ b. cond b (v - 1) v) (let e : nat_lt gone v ≡ false = grind (arith, nat_tests) in e)

behind_without : (gone v : ℕ) → gone < v → place_without gone v ≡ v - 1
behind_without gone v behind = ap (λ b. cond b (v - 1) v) (let e : nat_lt gone v ≡ true = grind (arith, nat_tests) in e)

pub data BesideIt (gone v : ℕ) : Type 0 where
  before : v < gone → place_without gone v ≡ v → BesideIt gone v
  behind : gone < v → place_without gone v ≡ v - 1 → BesideIt gone v

which_side : (gone v : ℕ) → (v == gone) ≡ false → (v < gone) ⊎ (gone < v)
which_side gone v apart = grind (arith, nat_tests)

pub beside : (gone v : ℕ) → (v == gone) ≡ false → BesideIt gone v
beside gone v apart = by (which_side gone v apart) where
  by : (v < gone) ⊎ (gone < v) → BesideIt gone v
  by (inl below) = before below (below_without gone v below)
  by (inr above) = behind above (behind_without gone v above)

pub at-without : {A : Type 0} (xs : List A) (gone v : ℕ) (d : A) → (v == gone) ≡ false → slice_index_or (remove xs gone) (place_without gone v) d ≡ slice_index_or xs v d
at-without [] zero v d apart = refl
at-without [] (suc gone) v d apart = refl
at-without (x ∷ xs) zero zero d apart = cc
at-without (x ∷ xs) zero (suc v) d apart = ap (λ k. slice_index_or xs k d) (without-first v)
at-without (x ∷ xs) (suc gone) zero d apart = ap (λ k. slice_index_or (x ∷ remove xs gone) k d) (below_without (suc gone) zero (omega arith))
at-without (x ∷ xs) (suc gone) (suc v) d apart = ap (λ k. slice_index_or (x ∷ remove xs gone) k d) (without-behind gone v (apart-turned v gone (suc-apart v gone apart))) ∙ at-without xs gone v d (suc-apart v gone apart)

-- ---- with one place standing for another

module _ (keep gone : ℕ) (first : keep < gone) where
  abbrev s : ℕ → ℕ
  s = standing_for keep gone

  abbrev f : ℕ → ℕ
  f = fused_place keep gone

  -- no part names `gone` any more
  pub standing-apart : (v : ℕ) → (s v == gone) ≡ false
  standing-apart v = by (v == gone) refl where
    by : (b : Bool) → (v == gone) ≡ b → (cond b keep v == gone) ≡ false
    by true is = different keep gone first
    by false is = is

  pub standing-itself : (v : ℕ) → (v == gone) ≡ false → s v ≡ v
  standing-itself v apart = ap (λ b. cond b keep v) apart

  pub standing-again : (v : ℕ) → s (s v) ≡ s v
  standing-again v = standing-itself (s v) (standing-apart v)

  pub standing-below : (v n : ℕ) → v < n → gone < n → s v < n
  standing-below v n below within = by (v == gone) where
    by : (b : Bool) → cond b keep v < n
    by true = omega (arith, first, within)
    by false = below

  pub fused-at : {A : Type 0} (xs : List A) (v : ℕ) (d : A) → slice_index_or (remove xs gone) (f v) d ≡ slice_index_or xs (s v) d
  fused-at xs v d = at-without xs gone (s v) d (standing-apart v)

  pub fused-get : {A : Type 0} (xs : List A) (v : ℕ) → slice_get (remove xs gone) (f v) ≡ slice_get xs (s v)
  fused-get xs v = get-without xs gone (s v) (apart-turned (s v) gone (standing-apart v))

  pub fused-first : f 0 ≡ 0
  fused-first = ap (place_without gone) (standing-itself 0 (let e : (0 == gone) ≡ false = grind (arith, nat_tests) in e)) ∙ below_without gone 0 (omega (arith, first))

  pub fused-below : (v n : ℕ) → v < n → gone < n → f v < n - 1
  fused-below v n below within = by (beside gone (s v) (standing-apart v)) (standing-below v n below within) where
    by : BesideIt gone (s v) → s v < n → f v < n - 1
    by (before less is) small = omega (arith, is, less, within)
    by (behind more is) small = omega (arith, is, more, small)

  -- a vertex that isn't one of the two keeps apart from all others
  pub record Other (t : ℕ) : Type 0 where
    pub not_keep : (t == keep) ≡ false
    pub not_gone : (t == gone) ≡ false

  without-apart : (x y : ℕ) → (x == gone) ≡ false → (y == gone) ≡ false → (place_without gone x == place_without gone y) ≡ (x == y)
  without-apart x y p q = by (beside gone x p) (beside gone y q) where
    by : BesideIt gone x → BesideIt gone y → (place_without gone x == place_without gone y) ≡ (x == y)
    by (before a is) (before b is_too) = ap₂ (λ i j. i == j) is is_too
    by (before a is) (behind b is_too) = ap₂ (λ i j. i == j) is is_too ∙ (let e : (x == (y - 1)) ≡ (x == y) = grind (arith, nat_tests) in e)
    by (behind a is) (before b is_too) = ap₂ (λ i j. i == j) is is_too ∙ (let e : ((x - 1) == y) ≡ (x == y) = grind (arith, nat_tests) in e)
    by (behind a is) (behind b is_too) = ap₂ (λ i j. i == j) is is_too ∙ (let e : ((x - 1) == (y - 1)) ≡ (x == y) = grind (arith, nat_tests) in e)

  pub fused-apart : (t : ℕ) → Other t → (v : ℕ) → (f v == f t) ≡ (v == t)
  fused-apart t other v =
      ap (λ i. f v == place_without gone i) (standing-itself t other.not_gone)
      ∙ without-apart (s v) t (standing-apart v) other.not_gone
      ∙ by (v == gone) refl where
        by : (b : Bool) → (v == gone) ≡ b → (cond b keep v == t) ≡ (v == t)
        by true is = (let e : (keep == t) ≡ false = (let a = other.not_keep in grind (arith, nat_tests)) in e) ∙ (let e : false ≡ (v == t) = (let a = other.not_gone in grind (arith, nat_tests)) in e)
        by false is = refl

  -- edges that are equal once `keep` replaces `gone` lead to the same places of the result
  fold-edge : (e : EventEdge) → edge_renumbered f (edge_renumbered s e) ≡ edge_renumbered f e
  fold-edge e = ap (λ k. record e { target = place_without gone k }) (standing-again e.target)

  fold-edges : (es : List EventEdge) → map (edge_renumbered f) (map (edge_renumbered s) es) ≡ map (edge_renumbered f) es
  fold-edges [] = refl
  fold-edges (e ∷ es) = ap₂ (λ e es. e ∷ es) (fold-edge e) (fold-edges es)

  pub same-leading : (a b : List EventEdge) → map (edge_renumbered s) a ≡ map (edge_renumbered s) b → map (edge_renumbered f) a ≡ map (edge_renumbered f) b
  same-leading a b same = sym (fold-edges a) ∙ (ap (map (edge_renumbered f)) same ∙ fold-edges b)
