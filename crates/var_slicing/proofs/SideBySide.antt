-- Two lists walked side by side, by a loop over a `zip`: what it adds for each pair of items at one place.
use Rattle.std.proofs.Common.{◌≡◌, ◌⊎◌, inl, inr, List, [], ◌∷◌, ◌++◌, map, zip, Option, None, Some, refl, sym, ap, ap₂, ◌∙◌, append-nil, append_assoc}
use Rattle.std.specs.List.{flat_map}
use Rattle.std.specs.Iterator.Adapters.{zip_first, zip_second}
use Rattle.std.specs.Slice.Iter.{iter_rest}
use Rattle.std.specs.declared.iter.Zip.{Zip}
use Rattle.std.specs.declared.slice.Iter.{Iter}
use Rattle.std.proofs.iter.Yields.{fronts}
use Rattle.std.proofs.lemmas.Iterator.{zips}
use Rattle.std.proofs.lemmas.Slice.Zip.{Zip-more, either_empty_from_Zip}
use denote.Ref.{Bor}

-- what was added so far, with what f gives for each two that are left, is what was there before, with what f gives for all
pub record AddedBeside {X Y A B C : Type 0} (f : A × B → List C) (view : X → A) (see : Y → B) (as_ : List A) (bs : List B) (s : Zip (Iter X) (Iter Y)) (before out : List C) : Type 0 where
  pub so_far : out ++ flat_map f (zip (map view (iter_rest (zip_first s))) (map see (iter_rest (zip_second s)))) ≡ before ++ flat_map f (zip as_ bs)

module _ {X Y A B C : Type 0} {f : A × B → List C} {view : X → A} {see : Y → B} {as_ : List A} {bs : List B} {s : Zip (Iter X) (Iter Y)} {before : List C} where
  pub begun_beside : map view (iter_rest (zip_first s)) ≡ as_ → map see (iter_rest (zip_second s)) ≡ bs → AddedBeside f view see as_ bs s before before
  begun_beside first second = record { so_far = ap₂ (λ (xs : List A) (ys : List B). before ++ flat_map f (zip xs ys)) first second }

  module _ {out : List C} (h : AddedBeside f view see as_ bs s before out) {r : Option (Bor X × Bor Y)} where
    -- one more of both lists
    pub one_beside : {t : Zip (Iter X) (Iter Y)} {p : Bor X × Bor Y} {after : List C} → r ≡ Some p → zips fronts fronts s r t → after ≡ out ++ f (view p.0.now, see p.1.now) → AddedBeside f view see as_ bs t before after
    one_beside {t} {p} is steps added =
        let both = Zip-more s t r p is steps in
        let later = flat_map f (zip (map view (iter_rest (zip_first t))) (map see (iter_rest (zip_second t)))) in
        record {
          so_far = ap (λ (cs : List C). cs ++ later) added
              ∙ append_assoc out (f (view p.0.now, see p.1.now)) later
              ∙ ap₂ (λ (xs : List X) (ys : List Y). out ++ flat_map f (zip (map view xs) (map see ys))) (sym both.0) (sym both.1)
              ∙ h.so_far;
        }

    -- the shorter one has come to its end
    pub all_beside : (t : Zip (Iter X) (Iter Y)) → r ≡ None → zips fronts fronts s r t → out ≡ before ++ flat_map f (zip as_ bs)
    all_beside t none steps = sym (append-nil out) ∙ ap (λ (cs : List C). out ++ cs) (sym (ended (either_empty_from_Zip s t r none steps))) ∙ h.so_far where
      no_second : (xs : List A) → flat_map f (zip xs []) ≡ []
      no_second [] = refl
      no_second (x ∷ xs) = refl

      ended : (iter_rest (zip_first s) ≡ []) ⊎ (iter_rest (zip_second s) ≡ []) → flat_map f (zip (map view (iter_rest (zip_first s))) (map see (iter_rest (zip_second s)))) ≡ []
      ended (inl none) = ap (λ (xs : List X). flat_map f (zip (map view xs) (map see (iter_rest (zip_second s))))) none
      ended (inr none) = ap (λ (ys : List Y). flat_map f (zip (map view (iter_rest (zip_first s))) (map see ys))) none ∙ no_second (map view (iter_rest (zip_first s)))
