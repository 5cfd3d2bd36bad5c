-- The elements of a list but the one at a place.
use Rattle.std.proofs.Common.{◌≡◌, ℕ, zero, suc, ◌+◌, ◌-◌, List, [], ◌∷◌, ◌++◌, map, take, drop, length, refl, sym, ◌∙◌, ap, arith, length-drop}
use Rattle.std.proofs.lemmas.List.{take_all}
use Rattle.model_core.proofs.Images.{map-remove}
use Rattle.std.specs.List.{remove}

next_place : (k : ℕ) → suc k ≡ k + 1
next_place k = omega arith

-- the elements before the place and those after it are all but the one there
taken_out : {A : Type 0} (xs : List A) (k : ℕ) → remove xs k ≡ take k xs ++ drop (suc k) xs
taken_out [] zero = refl
taken_out [] (suc k) = refl
taken_out (x ∷ xs) zero = refl
taken_out (x ∷ xs) (suc k) = ap (λ ys. x ∷ ys) (taken_out xs k)

pub parts_left : {A B : Type 0} (view : A → B) (xs : List A) (k : ℕ) → map view (take k xs ++ take (length xs - (k + 1)) (drop (k + 1) xs)) ≡ remove (map view xs) k
parts_left view xs k =
    ap (λ ys. map view (take k xs ++ ys)) (take_all (length xs - (k + 1)) (drop (k + 1) xs) (let long = length-drop (k + 1) xs in omega (arith, long)))
    ∙ ap (λ j. map view (take k xs ++ drop j xs)) (sym (next_place k))
    ∙ ap (map view) (sym (taken_out xs k))
    ∙ map-remove view xs k
