-- The element that is read at a place of a list.
use Rattle.std.proofs.Common.{◌≡◌, ℕ, zero, suc, ◌<◌, List, [], ◌∷◌, map, length, get_or, slice_get, slice_index_or, Some, sym, ap, arith}

pub read_at : {A : Type 0} (xs : List A) (k : ℕ) (d x : A) → slice_get xs k ≡ Some x → slice_index_or xs k d ≡ x
read_at [] k d x there = cc
read_at (y ∷ xs) zero d x there = cc
read_at (y ∷ xs) (suc k) d x there = read_at xs k d x there

pub is_there : {A : Type 0} (xs : List A) (k : ℕ) (x : A) → slice_get xs k ≡ Some x → k < length xs
is_there [] k x e = cc
is_there (y ∷ xs) zero x e = omega arith
is_there (y ∷ xs) (suc k) x e = let later = is_there xs k x e in omega (arith, later)

-- the element at a place, through a view
pub seen_at : {A B : Type 0} (view : A → B) (xs : List A) (k : ℕ) (x : A) → k < length xs → x ≡ get_or xs k x → slice_get (map view xs) k ≡ Some (view x)
seen_at view [] k x below is = absurd (omega (arith, below))
seen_at view (y ∷ xs) zero x below is = ap (λ z. Some (view z)) (sym is)
seen_at view (y ∷ xs) (suc k) x below is = seen_at view xs k x (omega (arith, below)) is
