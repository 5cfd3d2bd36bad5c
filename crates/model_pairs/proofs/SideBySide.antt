-- Two lists walked side by side, by a loop over a `zip`: the first pair of items at one place of which a test holds.
use Rattle.std.proofs.Common.{◌≡◌, ◌⊎◌, inl, inr, Bool, true, false, cond, List, [], ◌∷◌, map, Option, None, Some, refl, sym, ap, ap₂, ◌∙◌}
use Rattle.std.specs.Iterator.Adapters.{zip_first, zip_second}
use Rattle.std.specs.Slice.Iter.{iter_rest}
use Rattle.std.specs.declared.iter.Zip.{Zip}
use Rattle.std.specs.declared.slice.Iter.{Iter}
use Rattle.std.proofs.iter.Yields.{fronts}
use Rattle.std.proofs.lemmas.Iterator.{zips}
use Rattle.std.proofs.lemmas.Slice.Zip.{Zip-more, either_empty_from_Zip}
use denote.Ref.{Bor}
use Rattle.model_pairs.specs.DeclaredApart.{first_beside}

-- the first that is left is the first of all
pub record SoughtBeside {X A : Type 0} (differ : A → A → Bool) (view : X → A) (as_ bs : List A) (s : Zip (Iter X) (Iter X)) : Type 0 where
  pub so_far : first_beside differ (map view (iter_rest (zip_first s))) (map view (iter_rest (zip_second s))) ≡ first_beside differ as_ bs

module _ {X A : Type 0} {differ : A → A → Bool} {view : X → A} {as_ bs : List A} {s : Zip (Iter X) (Iter X)} where
  pub sought_from : map view (iter_rest (zip_first s)) ≡ as_ → map view (iter_rest (zip_second s)) ≡ bs → SoughtBeside differ view as_ bs s
  sought_from first second = record { so_far = ap₂ (first_beside differ) first second }

  module _ (h : SoughtBeside differ view as_ bs s) {r : Option (Bor X × Bor X)} (t : Zip (Iter X) (Iter X)) where
    -- what is left begins with this pair
    begins : (p : Bor X × Bor X) → r ≡ Some p → zips fronts fronts s r t
        → first_beside differ as_ bs ≡ cond (differ (view p.0.now) (view p.1.now)) (Some (view p.0.now, view p.1.now)) (first_beside differ (map view (iter_rest (zip_first t))) (map view (iter_rest (zip_second t))))
    begins p is steps =
        let both = Zip-more s t r p is steps in
        sym h.so_far ∙ ap₂ (λ (xs ys : List X). first_beside differ (map view xs) (map view ys)) both.0 both.1

    -- one more pair isn't so
    pub not_here : (p : Bor X × Bor X) → r ≡ Some p → zips fronts fronts s r t → differ (view p.0.now) (view p.1.now) ≡ false → SoughtBeside differ view as_ bs t
    not_here p is steps other = record {
      so_far = sym (begins p is steps ∙ ap (λ b. cond b (Some (view p.0.now, view p.1.now)) (first_beside differ (map view (iter_rest (zip_first t))) (map view (iter_rest (zip_second t))))) other);
    }

    -- this pair is so
    pub found_here : (p : Bor X × Bor X) → r ≡ Some p → zips fronts fronts s r t → differ (view p.0.now) (view p.1.now) ≡ true → Some (view p.0.now, view p.1.now) ≡ first_beside differ as_ bs
    found_here p is steps differs =
        sym (begins p is steps ∙ ap (λ b. cond b (Some (view p.0.now, view p.1.now)) (first_beside differ (map view (iter_rest (zip_first t))) (map view (iter_rest (zip_second t))))) differs)

    -- the shorter list has come to its end
    pub found_nowhere : r ≡ None → zips fronts fronts s r t → None ≡ first_beside differ as_ bs
    found_nowhere none steps = sym (ended (either_empty_from_Zip s t r none steps)) ∙ h.so_far where
      no_second : (xs : List A) → first_beside differ xs [] ≡ None
      no_second [] = refl
      no_second (x ∷ xs) = refl

      ended : (iter_rest (zip_first s) ≡ []) ⊎ (iter_rest (zip_second s) ≡ []) → first_beside differ (map view (iter_rest (zip_first s))) (map view (iter_rest (zip_second s))) ≡ None
      ended (inl none) = ap (λ (xs : List X). first_beside differ (map view xs) (map view (iter_rest (zip_second s)))) none
      ended (inr none) = ap (λ (ys : List X). first_beside differ (map view (iter_rest (zip_first s))) (map view ys)) none ∙ no_second (map view (iter_rest (zip_first s)))
