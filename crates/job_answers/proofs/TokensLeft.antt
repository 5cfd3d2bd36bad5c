-- What is left of the tokens from a place on.
use Rattle.std.proofs.Common.{◌≡◌, ℕ, zero, suc, ◌<◌, ◌≤◌, List, [], ◌∷◌, length, map, drop, get_or, refl, arith}

pub none_left : {A : Type 0} (i : ℕ) (xs : List A) → length xs ≤ i → drop i xs ≡ []
none_left zero [] short = refl
none_left zero (x ∷ xs) short = absurd (omega arith)
none_left (suc i) [] short = refl
none_left (suc i) (x ∷ xs) short = none_left i xs (omega arith)

pub one_seen_left : {A B : Type 0} (view : A → B) (xs : List A) (i : ℕ) (d : A) → i < length xs → drop i (map view xs) ≡ view (get_or xs i d) ∷ drop (suc i) (map view xs)
one_seen_left view [] i d below = absurd (omega arith)
one_seen_left view (x ∷ xs) zero d below = refl
one_seen_left view (x ∷ xs) (suc i) d below = one_seen_left view xs i d (omega arith)
