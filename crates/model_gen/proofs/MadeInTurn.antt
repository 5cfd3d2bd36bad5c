-- A list of a function's values at numbers in turn: how it grows, a property of each element, and the element at a
-- place.
use Rattle.std.proofs.Common.{◌≡◌, ◌∙◌, ℕ, zero, suc, ◌+◌, ◌≤◌, ◌<◌, List, [], ◌∷◌, ◌++◌, map, Some, slice_get, sym, ap, ap₂, arith}
use Rattle.std.specs.List.{AllByRecursion, range_with_len}
use Rattle.std.proofs.lemmas.List.{map-append}
use Rattle.std.proofs.lemmas.List.FromFn.{map-range_with_len_more}

pub made_next : {X Y : Type 0} (view : X → Y) (f : ℕ → Y) (before after : List X) (x : X) (n : ℕ)
    → after ≡ before ++ x ∷ [] → view x ≡ f n → map view before ≡ map f (range_with_len 0 n) → map view after ≡ map f (range_with_len 0 (n + 1))
made_next view f before after x n pushed same so_far =
    ap (map view) pushed ∙ map-append view before (x ∷ []) ∙ ap₂ (λ ys y. ys ++ y ∷ []) so_far same ∙ sym (map-range_with_len_more f 0 n n (omega arith))

-- a property of the function's value at each number is one of each element
pub each_made : {A : Type 0} (P : A → Type 0) (f : ℕ → A) (a n limit : ℕ) → a + n ≤ limit → ((i : ℕ) → a ≤ i → i < limit → P (f i)) → AllByRecursion P (map f (range_with_len a n))
each_made P f a zero limit within each = tt
each_made P f a (suc n) limit within each = (each a (omega arith) (omega arith), each_made P f (a + 1) n limit (omega arith) (λ i from below. each i (omega arith) below))

-- the element at a place, also with more after them all
pub made_at : {A : Type 0} (f : ℕ → A) (a n i j : ℕ) (later : List A) → i < n → a + i ≡ j → slice_get (map f (range_with_len a n) ++ later) i ≡ Some (f j)
made_at f a zero i j later below is = absurd (omega arith)
made_at f a (suc n) zero j later below is = let here : a ≡ j = omega arith in ap (λ k. Some (f k)) here
made_at f a (suc n) (suc i) j later below is = made_at f (a + 1) n i j later (omega arith) (omega arith)
