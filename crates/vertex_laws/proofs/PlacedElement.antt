-- Lists with the element at one place changed.
use Rattle.std.proofs.Common.{◌≡◌, ℕ, zero, suc, ◌+◌, List, [], ◌∷◌, length, slice_get, slice_index_or, Some, refl, ap, arith, length-append}
use Rattle.std.specs.List.{AllByRecursion, flat_map}
use Rattle.model_core.specs.Rules.PlacedEdges.{with_place}

-- what is put at a place counts at the element there alone
pub same_placed : {A : Type 0} (f h : A → A) (k : ℕ) (xs : List A) (d : A) → f (slice_index_or xs k d) ≡ h (slice_index_or xs k d) → with_place f k xs ≡ with_place h k xs
same_placed f h k [] d e = refl
same_placed f h zero (x ∷ xs) d e = ap (λ y. y ∷ xs) e
same_placed f h (suc k) (x ∷ xs) d e = ap (λ ys. x ∷ ys) (same_placed f h k xs d e)

-- a fact of all elements, and of the changed one
pub every_placed : {A : Type 0} (P : A → Type 0) (f : A → A) (k : ℕ) (xs : List A) (d : A) → AllByRecursion P xs → P (f (slice_index_or xs k d)) → AllByRecursion P (with_place f k xs)
every_placed P f k [] d all here = tt
every_placed P f zero (x ∷ xs) d (p, all) here = (here, all)
every_placed P f (suc k) (x ∷ xs) d (p, all) here = (p, every_placed P f k xs d all here)

-- the length of what the elements give, before and after
pub lengths_placed : {A : Type 0} (gives : A → List ℕ) (f : A → A) (k : ℕ) (xs : List A) (d x : A) → slice_get xs k ≡ Some x → length (flat_map gives (with_place f k xs)) + length (gives (slice_index_or xs k d)) ≡ length (flat_map gives xs) + length (gives (f (slice_index_or xs k d)))
lengths_placed gives f k [] d x there = cc
lengths_placed gives f zero (y ∷ xs) d x there = omega (arith, length-append (gives y) (flat_map gives xs), length-append (gives (f y)) (flat_map gives xs))
lengths_placed gives f (suc k) (y ∷ xs) d x there =
    let later = lengths_placed gives f k xs d x there in
    omega (arith, later, length-append (gives y) (flat_map gives xs), length-append (gives y) (flat_map gives (with_place f k xs)))
