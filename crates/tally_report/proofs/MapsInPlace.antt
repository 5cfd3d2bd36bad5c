-- A loop that writes f x over each element x of a list, with a fact of what is written.
use Rattle.std.proofs.Common.{◌≡◌, ℕ, ◌+◌, ◌<◌, List, ◌++◌, length, length-append, map, take, drop, get_or, slice_set, All, sym, ap, ◌∙◌, subst, arith}
use Rattle.std.proofs.lemmas.List.{take_more_set, length-take, length-drop, length-map}
use Rattle.std.proofs.lemmas.List.Edits.{map_over_more}
use Rattle.std.proofs.lemmas.List.Elements.{All-push}

pub all-written : {X : Type 0} (f : X → X) (xs ys : List X) (i : ℕ) → ys ≡ map f (take i xs) ++ drop i xs → length ys ≡ length xs
all-written f xs ys i so_far = ap length so_far ∙ omega (arith, length-append (map f (take i xs)) (drop i xs), length-map (take i xs) f, length-take i xs, length-drop i xs)

module _ {X : Type 0} (f : X → X) (xs ys : List X) (i : ℕ) (x y : X) (within : i < length xs) (so_far : ys ≡ map f (take i xs) ++ drop i xs) (read : x ≡ get_or ys i x) (written : y ≡ f x) where
  pub written_more : slice_set ys i y ≡ map f (take (i + 1) xs) ++ drop (i + 1) xs
  written_more = ap (λ z. slice_set ys i z) written ∙ map_over_more f xs ys i x within so_far read

  pub as_long : length ys ≡ length xs
  as_long = all-written f xs ys i so_far

  pub All-written_more : (P : X → Type 0) → All P (take i ys) → P y → All P (take (i + 1) (slice_set ys i y))
  All-written_more P all one = subst (All P) (sym (take_more_set ys i y (omega (arith, within, as_long)))) (All-push P (take i ys) y all one)
