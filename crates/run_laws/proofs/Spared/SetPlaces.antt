-- A list in which some places are set, one after the other, and the places that this spares.
use Rattle.std.proofs.Common.{◌≡◌, ℕ, zero, suc, ◌==◌, false, List, [], ◌∷◌, ◌++◌, slice_index_or, slice_set, refl, ◌∙◌, ap, subst}
use Rattle.std.specs.List.{AllByRecursion}
use Rattle.model_core.proofs.EachOne.{every-map, every-joined}
use Rattle.model_core.proofs.PlacesChanged.{suc-apart}
use Rattle.model_core.proofs.Among.{Among, of-among}

module _ {X : Type 0} where
  -- the places of the pairs, set to their values
  abbrev pub sets : List (ℕ × X) → List X → List X
  sets [] xs = xs
  sets ((k, x) ∷ us) xs = sets us (slice_set xs k x)

  -- no pair sets this place
  abbrev pub Spares : List (ℕ × X) → ℕ → Type 0
  Spares us k = AllByRecursion (λ (u : ℕ × X). (u.0 == k) ≡ false) us

  set-elsewhere : (xs : List X) (k j : ℕ) (x d : X) → (k == j) ≡ false → slice_index_or (slice_set xs k x) j d ≡ slice_index_or xs j d
  set-elsewhere [] k j x d apart = refl
  set-elsewhere (y ∷ xs) zero zero x d apart = cc
  set-elsewhere (y ∷ xs) zero (suc j) x d apart = refl
  set-elsewhere (y ∷ xs) (suc k) zero x d apart = refl
  set-elsewhere (y ∷ xs) (suc k) (suc j) x d apart = set-elsewhere xs k j x d (suc-apart k j apart)

  set-set : (xs : List X) (k j : ℕ) (x y : X) → (k == j) ≡ false → slice_set (slice_set xs k x) j y ≡ slice_set (slice_set xs j y) k x
  set-set [] k j x y apart = refl
  set-set (z ∷ xs) zero zero x y apart = cc
  set-set (z ∷ xs) zero (suc j) x y apart = refl
  set-set (z ∷ xs) (suc k) zero x y apart = refl
  set-set (z ∷ xs) (suc k) (suc j) x y apart = ap (λ zs. z ∷ zs) (set-set xs k j x y (suc-apart k j apart))

  -- a place that is spared holds what it held
  pub sets-spared : (us : List (ℕ × X)) (xs : List X) (j : ℕ) (d : X) → Spares us j → slice_index_or (sets us xs) j d ≡ slice_index_or xs j d
  sets-spared [] xs j d spared = refl
  sets-spared ((k, x) ∷ us) xs j d (now, spared) = sets-spared us (slice_set xs k x) j d spared ∙ set-elsewhere xs k j x d now

  -- it may be set before the others or after them
  pub sets-set : (us : List (ℕ × X)) (xs : List X) (j : ℕ) (y : X) → Spares us j → slice_set (sets us xs) j y ≡ sets us (slice_set xs j y)
  sets-set [] xs j y spared = refl
  sets-set ((k, x) ∷ us) xs j y (now, spared) = sets-set us (slice_set xs k x) j y spared ∙ ap (sets us) (set-set xs k j x y now)

  pub sets-sets : (us ws : List (ℕ × X)) (xs : List X) → AllByRecursion (λ (w : ℕ × X). Spares us w.0) ws → sets ws (sets us xs) ≡ sets us (sets ws xs)
  sets-sets us [] xs spared = refl
  sets-sets us ((j, y) ∷ ws) xs (now, spared) = ap (sets ws) (sets-set us xs j y now) ∙ sets-sets us ws (slice_set xs j y) spared

  sets-append : (us ws : List (ℕ × X)) (xs : List X) → sets (us ++ ws) xs ≡ sets ws (sets us xs)
  sets-append [] ws xs = refl
  sets-append ((k, x) ∷ us) ws xs = sets-append us ws (slice_set xs k x)

  -- the second list is the first one with places among these set
  pub record ChangedWithin (places : List ℕ) (xs ys : List X) : Type 0 where
    pub pairs : List (ℕ × X)
    pub among : AllByRecursion (λ (u : ℕ × X). Among u.0 places) pairs
    pub result : sets pairs xs ≡ ys

  pub written-none : (places : List ℕ) (xs ys : List X) → xs ≡ ys → ChangedWithin places xs ys
  written-none places xs ys same = record { pairs = []; among = tt; result = same }

  pub written-then : (places : List ℕ) (xs ys zs : List X) → ChangedWithin places xs ys → ChangedWithin places ys zs → ChangedWithin places xs zs
  written-then places xs ys zs first later = record {
    pairs = first.pairs ++ later.pairs;
    among = every-joined (λ (u : ℕ × X). Among u.0 places) first.pairs later.pairs first.among later.among;
    result = sets-append first.pairs later.pairs xs ∙ (ap (sets later.pairs) first.result ∙ later.result);
  }

  pub written-more : (places more : List ℕ) (xs ys : List X) → ((k : ℕ) → Among k places → Among k more) → ChangedWithin places xs ys → ChangedWithin more xs ys
  written-more places more xs ys into w = record {
    pairs = w.pairs;
    among = every-map (λ (u : ℕ × X). Among u.0 places) (λ (u : ℕ × X). Among u.0 more) (λ u h. into u.0 h) w.pairs w.among;
    result = w.result;
  }

  -- a place that isn't one of these holds what it held
  pub written-elsewhere : (places : List ℕ) (xs ys : List X) (j : ℕ) (d : X) → AllByRecursion (λ k. (k == j) ≡ false) places → ChangedWithin places xs ys → slice_index_or ys j d ≡ slice_index_or xs j d
  written-elsewhere places xs ys j d apart w =
      let spared : Spares w.pairs j = every-map (λ (u : ℕ × X). Among u.0 places) (λ (u : ℕ × X). (u.0 == j) ≡ false) (λ u there. of-among (λ k. (k == j) ≡ false) places u.0 apart there) w.pairs w.among in
      subst (λ (zs : List X). slice_index_or zs j d ≡ slice_index_or xs j d) w.result (sets-spared w.pairs xs j d spared)
