-- Two places of a list taken off in either order.
use Rattle.std.proofs.Common.{◌≡◌, ℕ, zero, suc, ◌==◌, false, List, [], ◌∷◌, slice_get, refl, sym, ◌∙◌, ap, arith}
use Rattle.std.proofs.lemmas.Bool.Decides.{nat_tests}
use Rattle.std.specs.List.{remove}
use Rattle.model_core.specs.Rules.MarkedPlaces.{place_without}
use Rattle.model_core.proofs.PlacesChanged.{suc-apart, apart-turned}

pub without-first : (j : ℕ) → place_without zero (suc j) ≡ j
without-first j = grind (arith, nat_tests)

pub without-later : (i : ℕ) → place_without (suc i) zero ≡ zero
without-later i = grind (arith, nat_tests)

pub without-behind : (i j : ℕ) → (i == j) ≡ false → place_without (suc i) (suc j) ≡ suc (place_without i j)
without-behind i j apart = grind (arith, nat_tests)

module _ {A : Type 0} where
  -- what is at the second place is found where it then is
  pub get-without : (xs : List A) (i j : ℕ) → (i == j) ≡ false → slice_get (remove xs i) (place_without i j) ≡ slice_get xs j
  get-without [] zero j apart = refl
  get-without [] (suc i) j apart = refl
  get-without (x ∷ xs) zero zero apart = cc
  get-without (x ∷ xs) zero (suc j) apart = ap (slice_get xs) (without-first j)
  get-without (x ∷ xs) (suc i) zero apart = ap (slice_get (x ∷ remove xs i)) (without-later i)
  get-without (x ∷ xs) (suc i) (suc j) apart = ap (slice_get (x ∷ remove xs i)) (without-behind i j (suc-apart i j apart)) ∙ get-without xs i j (suc-apart i j apart)

  remove-none : (k : ℕ) → remove {X = A} [] k ≡ []
  remove-none zero = refl
  remove-none (suc k) = refl

  both-none : (i j : ℕ) → remove (remove {X = A} [] i) j ≡ []
  both-none i j = ap (λ xs. remove xs j) (remove-none i) ∙ remove-none j

  -- what is left without both
  pub remove-turned : (xs : List A) (i j : ℕ) → (i == j) ≡ false → remove (remove xs i) (place_without i j) ≡ remove (remove xs j) (place_without j i)
  remove-turned [] i j apart = both-none i (place_without i j) ∙ sym (both-none j (place_without j i))
  remove-turned (x ∷ xs) zero zero apart = cc
  remove-turned (x ∷ xs) zero (suc j) apart = ap (remove xs) (without-first j) ∙ sym (ap (remove (x ∷ remove xs j)) (without-later j))
  remove-turned (x ∷ xs) (suc i) zero apart = ap (remove (x ∷ remove xs i)) (without-later i) ∙ sym (ap (remove xs) (without-first i))
  remove-turned (x ∷ xs) (suc i) (suc j) apart =
      let apart_here = suc-apart i j apart in
      ap (remove (x ∷ remove xs i)) (without-behind i j apart_here) ∙
      (ap (λ ys. x ∷ ys) (remove-turned xs i j apart_here) ∙
      sym (ap (remove (x ∷ remove xs j)) (without-behind j i (apart-turned i j apart_here))))
