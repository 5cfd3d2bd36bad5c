-- The front of a list that is kept in a longer one: how long it is, and one of its elements taken away.
use Rattle.std.proofs.Common.{◌≡◌, ℕ, zero, suc, ◌+◌, ◌-◌, ◌<◌, ◌≤◌, List, [], ◌∷◌, ◌++◌, take, drop, length, sym, ◌∙◌, ap, ap₂, arith}
use Rattle.std.specs.List.{remove, copy_within}
use Rattle.std.proofs.lemmas.List.{length-drop, take-take, drop-take}
use Rattle.std.proofs.Math.Seq.{take-paste}

module _ {X : Type 0} where
  pub no-longer : (xs : List X) (n : ℕ) → length (take n xs) ≤ n
  no-longer xs zero = omega arith
  no-longer [] (suc n) = omega arith
  no-longer (x ∷ xs) (suc n) = let less = no-longer xs n in omega (arith, less)

  -- the elements after a place are moved onto it
  pub moved-up : (xs : List X) (n k : ℕ) → k < n → n ≤ length xs → take (n - 1) (copy_within xs (k + 1) n k) ≡ remove (take n xs) k
  moved-up xs n k below fits =
      let more = n - (k + 1) in
      let whole : n ≡ suc k + more = omega (arith, below) in
      let before : n - 1 ≡ k + more = omega (arith, below) in
      let long = length-drop (k + 1) xs in
      ap (λ m. take m (copy_within xs (k + 1) n k)) before
      ∙ (take-paste xs k (drop (k + 1) xs) more (omega (arith, below, fits)) (omega (arith, long, below, fits))
      ∙ ap₂ (λ a b. a ++ b) (sym (take-take k n xs (omega (arith, below))))
      (ap (λ j. take more (drop j xs)) (let e : k + 1 ≡ suc k = omega arith in e) ∙ (sym (drop-take (suc k) more xs) ∙ ap (λ m. drop (suc k) (take m xs)) (sym whole))))
