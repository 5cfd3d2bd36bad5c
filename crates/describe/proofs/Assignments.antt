-- The rest that a loop over locations has to add, after one location more with the value beside it.
use Rattle.std.proofs.Common.{◌≡◌, ℕ, zero, suc, ◌<◌, ◌+◌, List, [], ◌∷◌, ◌++◌, map, zip, drop, length, get_or, refl, sym, ap, ◌∙◌, append_assoc, add-one, codes}
use Rattle.std.specs.Prelude.{slice_get}
use Rattle.std.specs.Option.{option_map_or}
use Rattle.sig_base.proofs.Lists.{remaining_more}
use Rattle.model_core.specs.EventGraph.{EventGraph, Location, Expression}
use Rattle.describe.specs.Description.{becomes_phrase, after_ands}

module _ (g : EventGraph) where
  -- what locations become, each after `and`
  abbrev pub later_phrases : List Location → List Expression → List ℕ
  later_phrases ls es = after_ands (map (becomes_phrase g) (zip ls es))

  -- what a location becomes after `and`, where there is a value at this place
  abbrev pub phrase_at : Location → List Expression → ℕ → List ℕ
  phrase_at l es i = option_map_or (λ (e : Expression). codes " and " ++ becomes_phrase g (l, e)) (slice_get es i) []

  later-none : (ls : List Location) → later_phrases ls [] ≡ []
  later-none [] = refl
  later-none (l ∷ ls) = refl

  first-later : (l : Location) (ls : List Location) (es : List Expression) (i : ℕ) → later_phrases (l ∷ ls) (drop i es) ≡ phrase_at l es i ++ later_phrases ls (drop (suc i) es)
  first-later l ls [] zero = sym (later-none ls)
  first-later l ls [] (suc i) = sym (later-none ls)
  first-later l ls (e ∷ es) zero = refl
  first-later l ls (e ∷ es) (suc i) = first-later l ls es i

  module _ {X : Type 0} (view : X → Location) where
    -- one location more
    pub one_phrase_more : (xs : List X) (es : List Expression) (i : ℕ) (x : X) (out after total : List ℕ) → i < length xs → x ≡ get_or xs i x → after ≡ out ++ phrase_at (view x) es i → out ++ later_phrases (map view (drop i xs)) (drop i es) ≡ total → after ++ later_phrases (map view (drop (i + 1) xs)) (drop (i + 1) es) ≡ total
    one_phrase_more xs es i x out after total below is added so_far =
        let rest = later_phrases (map view (drop (i + 1) xs)) (drop (i + 1) es) in
        let split : later_phrases (map view (drop i xs)) (drop i es) ≡ phrase_at (view x) es i ++ rest =
        rw (remaining_more view xs i x below is, add-one) (first-later (view x) (map view (drop (suc i) xs)) es i) in
        ap (λ (t : List ℕ). t ++ rest) added ∙ append_assoc out (phrase_at (view x) es i) rest ∙ ap (λ (t : List ℕ). out ++ t) (sym split) ∙ so_far
