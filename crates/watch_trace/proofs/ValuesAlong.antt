-- The values of watched things along a watch list, compared with a list of values.
use Rattle.std.proofs.Common.{◌≡◌, ℕ, ◌+◌, ◌-◌, ◌<◌, ℤ, Bool, true, false, not, ◌&&◌, List, ◌++◌, length, get_or, take, drop, map, refl, sym, ap, ap₂, ◌∙◌, arith, add-one, length-append, length-drop, drop-cons}
use Rattle.std.specs.List.{flat_map}
use Rattle.std.proofs.lemmas.List.{drop-drop, take-append-drop, length-take-le}
use Rattle.model_core.specs.Run.Pending.{same_values}
use Rattle.run_laws.proofs.CutUp.{same-append}

module _ {X Y : Type 0} (f : Y → List ℤ) (view : X → Y) (xs : List X) (i : ℕ) (d : X) (below : i < length xs) where
  -- the values of the next thing, and of those after it
  next-values : flat_map f (map view (drop i xs)) ≡ f (view (get_or xs i d)) ++ flat_map f (map view (drop (i + 1) xs))
  next-values = rw (add-one, drop-cons xs i d) refl

  module _ (values cells : List ℤ) (from : ℕ) (whole : Bool) (of_next : cells ≡ f (view (get_or xs i d))) (left : whole ≡ same_values (drop from values) (flat_map f (map view (drop i xs)))) (long : from + length (flat_map f (map view (drop i xs))) ≡ length values) where
    abbrev rest : List ℤ
    rest = flat_map f (map view (drop (i + 1) xs))

    split : flat_map f (map view (drop i xs)) ≡ cells ++ rest
    split = next-values ∙ ap (λ l. l ++ rest) (sym of_next)

    pub enough : from + (length cells + length rest) ≡ length values
    enough = ap (λ n. from + n) (sym (length-append cells rest) ∙ ap length (sym split)) ∙ long

    cut : drop from values ≡ take (from + length cells - from) (drop from values) ++ drop (from + length cells) values
    cut =
        let n : from + length cells - from ≡ length cells = omega arith in
        sym (take-append-drop (length cells) (drop from values)) ∙ ap₂ (λ k l. take k (drop from values) ++ l) (sym n) (drop-drop (length cells) from values)

    pub first_and_rest : whole ≡ (same_values (take (from + length cells - from) (drop from values)) cells && same_values (drop (from + length cells) values) rest)
    first_and_rest =
        let n : from + length cells - from ≡ length cells = omega arith in
        let size : length (take (from + length cells - from) (drop from values)) ≡ length cells =
        ap (λ k. length (take k (drop from values))) n ∙ length-take-le (length cells) (drop from values) (omega (arith, length-drop from values, enough)) in
        left ∙ ap₂ same_values cut split ∙ same-append (take (from + length cells - from) (drop from values)) (drop (from + length cells) values) cells rest size

    pub they_differ : true ≡ not (same_values (take (from + length cells - from) (drop from values)) cells) → false ≡ whole
    they_differ e = sym (first_and_rest ∙ ap (λ b. b && same_values (drop (from + length cells) values) rest) (negated _ e)) where
      negated : (b : Bool) → true ≡ not b → b ≡ false
      negated true e = cc
      negated false e = refl

    pub so_far_same : false ≡ not (same_values (take (from + length cells - from) (drop from values)) cells) → (whole ≡ same_values (drop (from + length cells) values) rest) × (from + length cells + length rest ≡ length values)
    so_far_same e = (first_and_rest ∙ ap (λ b. b && same_values (drop (from + length cells) values) rest) (affirmed _ e), omega (arith, enough)) where
      affirmed : (b : Bool) → false ≡ not b → b ≡ true
      affirmed true e = refl
      affirmed false e = cc
