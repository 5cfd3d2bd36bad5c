-- Lists with one element changed or taken away: what holds of all elements, and between the old and the new ones.
use Rattle.std.proofs.Common.{◌≡◌, ℕ, suc, zero, ◌≤◌, Bool, true, List, [], ◌∷◌, length, slice_get, slice_index_or, Some, refl, ap, arith}
use Rattle.std.specs.List.{AllByRecursion, list_any, remove}
use Rattle.model_core.specs.Run.Value.{OrFault, ◌>>=◌, in_turn}
use Rattle.model_core.specs.Rules.PlacedEdges.{with_place}
use Rattle.model_core.proofs.Among.{second_true}
use Rattle.model_core.proofs.Results.{bind_same}
use Rattle.round_trip.proofs.VersionsKept.{either_kept}

-- ---- one element taken away

pub all_remove : {A : Type 0} (P : A → Type 0) (xs : List A) (k : ℕ) → AllByRecursion P xs → AllByRecursion P (remove xs k)
all_remove P [] zero h = tt
all_remove P [] (suc k) h = tt
all_remove P (x ∷ xs) zero h = h.1
all_remove P (x ∷ xs) (suc k) h = (h.0, all_remove P xs k h.1)

pub any_remove : {A : Type 0} (test : A → Bool) (xs : List A) (k : ℕ) → list_any test (remove xs k) ≡ true → list_any test xs ≡ true
any_remove test [] zero e = e
any_remove test [] (suc k) e = e
any_remove test (x ∷ xs) zero e = second_true (test x) (list_any test xs) e
any_remove test (x ∷ xs) (suc k) e = either_kept (test x) (list_any test (remove xs k)) (test x) (list_any test xs) (λ h. h) (any_remove test xs k) e

pub length-remove-le : {A : Type 0} (xs : List A) (k : ℕ) → length (remove xs k) ≤ length xs
length-remove-le [] zero = omega arith
length-remove-le [] (suc k) = omega arith
length-remove-le (x ∷ xs) zero = omega arith
length-remove-le (x ∷ xs) (suc k) = let h : length (remove xs k) ≤ length xs = length-remove-le xs k in omega arith

-- ---- one element changed

pub all_with_place : {A : Type 0} (P : A → Type 0) (f : A → A) → ((x : A) → P x → P (f x)) → (k : ℕ) (xs : List A) → AllByRecursion P xs → AllByRecursion P (with_place f k xs)
all_with_place P f keeps k [] h = tt
all_with_place P f keeps zero (x ∷ xs) h = (keeps x h.0, h.1)
all_with_place P f keeps (suc k) (x ∷ xs) h = (h.0, all_with_place P f keeps k xs h.1)

-- what holds between each element and itself, and between the one at a place and f of it, holds beside with_place
pub with_place-beside : {A : Type 0} (P : A → A → Type 0) (f : A → A) (i k : ℕ) (d : A) → ((x : A) → P x x) → (xs : List A) → ((x : A) → slice_get xs i ≡ Some x → P x (f x)) → P (slice_index_or xs k d) (slice_index_or (with_place f i xs) k d)
with_place-beside P f i k d itself [] changed = itself d
with_place-beside P f zero zero d itself (x ∷ xs) changed = changed x refl
with_place-beside P f zero (suc k) d itself (x ∷ xs) changed = itself (slice_index_or xs k d)
with_place-beside P f (suc i) zero d itself (x ∷ xs) changed = itself x
with_place-beside P f (suc i) (suc k) d itself (x ∷ xs) changed = with_place-beside P f i k d itself xs changed

-- a part that does the same as what it is changed to
pub in_turn-with_place : {A S : Type 0} (f : A → S → OrFault S) (c : A → A) (as_ : List A) (j : ℕ) (s : S) → ((a : A) → slice_get as_ j ≡ Some a → (t : S) → f a t ≡ f (c a) t) → in_turn f as_ s ≡ in_turn f (with_place c j as_) s
in_turn-with_place f c [] j s same = refl
in_turn-with_place f c (a ∷ as_) zero s same = ap (λ r. r >>= in_turn f as_) (same a refl s)
in_turn-with_place f c (a ∷ as_) (suc j) s same = bind_same (f a s) (in_turn f as_) (in_turn f (with_place c j as_)) (λ t e. in_turn-with_place f c as_ j t same)
