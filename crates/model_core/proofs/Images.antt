-- Lists of images: the item at a place, its view, and the list that all are joined to.
use Rattle.std.proofs.Common.{◌≡◌, ℕ, zero, suc, List, [], ◌∷◌, ◌++◌, map, slice_get, slice_index_or, Some, refl, ap}
use Rattle.std.specs.List.{flat_map, remove}
use Rattle.std.specs.Option.{option_map_or}

pub at-map : {A B : Type 0} (f : A → B) (xs : List A) (k : ℕ) (d : A) → slice_index_or (map f xs) k (f d) ≡ f (slice_index_or xs k d)
at-map f [] k d = refl
at-map f (x ∷ xs) zero d = refl
at-map f (x ∷ xs) (suc k) d = at-map f xs k d

-- an image that is at a place is that of the element there
pub image-there : {A B : Type 0} (f : A → B) (xs : List A) (k : ℕ) (d : A) (y : B) → slice_get (map f xs) k ≡ Some y → f (slice_index_or xs k d) ≡ y
image-there f [] k d y is = cc
image-there f (x ∷ xs) zero d y is = cc
image-there f (x ∷ xs) (suc k) d y is = image-there f xs k d y is

-- where an image shows what its element shows
pub shown-map : {A B : Type 0} (n : A → B) (f : A → A) (d : B) → ((x : A) → n (f x) ≡ n x) → (xs : List A) (k : ℕ) → option_map_or n (slice_get (map f xs) k) d ≡ option_map_or n (slice_get xs k) d
shown-map n f d same [] k = refl
shown-map n f d same (x ∷ xs) zero = same x
shown-map n f d same (x ∷ xs) (suc k) = shown-map n f d same xs k

pub flat_map-map : {A B C : Type 0} (f : A → B) (h : B → List C) (xs : List A) → flat_map h (map f xs) ≡ flat_map (λ x. h (f x)) xs
flat_map-map f h [] = refl
flat_map-map f h (x ∷ xs) = ap (λ ys. h (f x) ++ ys) (flat_map-map f h xs)

pub map-remove : {A B : Type 0} (f : A → B) (xs : List A) (k : ℕ) → map f (remove xs k) ≡ remove (map f xs) k
map-remove f [] zero = refl
map-remove f [] (suc k) = refl
map-remove f (x ∷ xs) zero = refl
map-remove f (x ∷ xs) (suc k) = ap (λ ys. f x ∷ ys) (map-remove f xs k)
