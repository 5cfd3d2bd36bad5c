-- Marks place by place: which lists of marks are equal, and which lie below others.
use Rattle.std.proofs.Common.{◌≡◌, inl, inr, ℕ, zero, suc, ◌<◌, Bool, true, false, List, [], ◌∷◌, length, map, slice_index_or, refl, sym, ap₂, arith, ◌∙◌}
use Rattle.std.specs.List.{range_with_len}
use Rattle.std.proofs.lemmas.List.FromFn.{get_or-map-range_with_len, length-map-range_with_len}
use Rattle.model_core.specs.Rules.MarkedPlaces.{marked_of, passes}
use Rattle.mark_laws.proofs.Marks.{Marked}
use Rattle.mark_laws.proofs.LeastSets.{Below}
use Rattle.model_core.proofs.Among.{Among}

pub marked-within : (marks : List Bool) (k : ℕ) → Marked marks k → k < length marks
marked-within [] k marked = cc
marked-within (b ∷ bs) zero marked = omega arith
marked-within (b ∷ bs) (suc k) marked = omega (arith, marked-within bs k marked)

pub below-by_places : (a b : List Bool) → length a ≡ length b → ((k : ℕ) → Marked a k → Marked b k) → Below a b
below-by_places [] [] long h = tt
below-by_places [] (y ∷ b) long h = cc
below-by_places (x ∷ a) [] long h = cc
below-by_places (x ∷ a) (y ∷ b) long h = (h zero, below-by_places a b (omega (arith, long)) (λ k. h (suc k)))

pub same_mark : (x y : Bool) → (x ≡ true → y ≡ true) → (y ≡ true → x ≡ true) → x ≡ y
same_mark true true to from = refl
same_mark true false to from = let no : false ≡ true = to refl in cc
same_mark false true to from = let no : false ≡ true = from refl in cc
same_mark false false to from = refl

pub equal-by_places : (a b : List Bool) → length a ≡ length b → ((k : ℕ) → Marked a k → Marked b k) → ((k : ℕ) → Marked b k → Marked a k) → a ≡ b
equal-by_places [] [] long to from = refl
equal-by_places [] (y ∷ b) long to from = cc
equal-by_places (x ∷ a) [] long to from = cc
equal-by_places (x ∷ a) (y ∷ b) long to from = ap₂ (λ m ms. m ∷ ms) (same_mark x y (to zero) (from zero)) (equal-by_places a b (omega (arith, long)) (λ k. to (suc k)) (λ k. from (suc k)))

-- ---- marks given by a test of the place

pub tested-marked : (test : ℕ → Bool) (n k : ℕ) → k < n → test k ≡ true → Marked (map test (range_with_len 0 n)) k
tested-marked test n k below passes = get_or-map-range_with_len test 0 n k k false below (omega arith) ∙ passes

pub marked-tested : (test : ℕ → Bool) (n k : ℕ) → Marked (map test (range_with_len 0 n)) k → test k ≡ true
marked-tested test n k marked =
    let below : k < length (map test (range_with_len 0 n)) = marked-within (map test (range_with_len 0 n)) k marked in
    sym (get_or-map-range_with_len test 0 n k k false (omega (arith, below, length-map-range_with_len test 0 n)) (omega arith)) ∙ marked

-- ---- the marked elements

pub among-marked : {A : Type 0} (marks : List Bool) (xs : List A) (k : ℕ) (d : A) → Marked marks k → k < length xs → Among (slice_index_or xs k d) (marked_of marks xs)
among-marked [] xs k d marked below = cc
among-marked (b ∷ bs) [] k d marked below = absurd (omega arith)
among-marked (true ∷ bs) (x ∷ xs) zero d marked below = inl refl
among-marked (false ∷ bs) (x ∷ xs) zero d marked below = cc
among-marked (true ∷ bs) (x ∷ xs) (suc k) d marked below = inr (among-marked bs xs k d marked (omega arith))
among-marked (false ∷ bs) (x ∷ xs) (suc k) d marked below = among-marked bs xs k d marked (omega arith)

pub marked-among : {A : Type 0} (marks : List Bool) (xs : List A) (x d : A) → Among x (marked_of marks xs) → (k : ℕ) × Marked marks k × (slice_index_or xs k d ≡ x)
marked-among [] xs x d h = absurd h
marked-among (b ∷ bs) [] x d h = absurd h
marked-among (true ∷ bs) (y ∷ xs) x d (inl e) = (zero, refl, e)
marked-among (true ∷ bs) (y ∷ xs) x d (inr h) = let (k, marked, e) = marked-among bs xs x d h in (suc k, marked, e)
marked-among (false ∷ bs) (y ∷ xs) x d h = let (k, marked, e) = marked-among bs xs x d h in (suc k, marked, e)
