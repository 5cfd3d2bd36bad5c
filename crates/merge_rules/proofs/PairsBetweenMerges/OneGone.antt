-- Marks of all places but one: the new places of the others, and what is left of a list.
use Rattle.std.proofs.Common.{◌≡◌, ℕ, zero, suc, ◌+◌, ◌<◌, ◌≤◌, ◌==◌, Bool, true, false, not, ◌||◌, List, [], ◌∷◌, map, length, refl, ◌∙◌, ap, ap₂, arith}
use Rattle.std.specs.List.{remove, list_any, range_with_len}
use Rattle.std.proofs.lemmas.Bool.Decides.{nat_tests}
use Rattle.model_core.specs.Rules.MarkedPlaces.{rank, marked_of, place_without}
use Rattle.model_core.specs.Rules.Drop.{staying_marks}
use Rattle.model_core.proofs.PlacesChanged.{same_number, different, apart-turned}
use Rattle.mark_laws.proofs.Marks.{Marked}

abbrev all_true : ℕ → List Bool
all_true zero = []
all_true (suc n) = true ∷ all_true n

-- so many marks, all but that at one place
abbrev pub all_but : ℕ → ℕ → List Bool
all_but zero gone = []
all_but (suc n) zero = false ∷ all_true n
all_but (suc n) (suc gone) = true ∷ all_but n gone

-- ---- they are those of what stays

all-stay : (t a n : ℕ) → t < a → map (λ k. not (list_any (λ v. v == k) (t ∷ []))) (range_with_len a n) ≡ all_true n
all-stay t a zero below = refl
all-stay t a (suc n) below = ap₂ (λ b bs. not (b || false) ∷ bs) (different t a below) (all-stay t (a + 1) n (omega (arith, below)))

stay-from : (n gone t a : ℕ) → t ≡ a + gone → map (λ k. not (list_any (λ v. v == k) (t ∷ []))) (range_with_len a n) ≡ all_but n gone
stay-from zero gone t a is = refl
stay-from (suc n) zero t a is = ap₂ (λ b bs. not (b || false) ∷ bs) (same_number t a (omega (arith, is))) (all-stay t (a + 1) n (omega (arith, is)))
stay-from (suc n) (suc gone) t a is = ap₂ (λ b bs. not (b || false) ∷ bs) (apart-turned a t (different a t (omega (arith, is)))) (stay-from n gone t (a + 1) (omega (arith, is)))

pub staying-but : (n gone : ℕ) → staying_marks (gone ∷ []) n ≡ all_but n gone
staying-but n gone = stay-from n gone gone 0 (omega arith)

-- ---- which are marked

true-marked : (n k : ℕ) → k < n → Marked (all_true n) k
true-marked zero k below = absurd (omega arith)
true-marked (suc n) zero below = refl
true-marked (suc n) (suc k) below = true-marked n k (omega (arith, below))

pub marked-but : (n gone k : ℕ) → k < n → (k == gone) ≡ false → Marked (all_but n gone) k
marked-but zero gone k below apart = absurd (omega arith)
marked-but (suc n) zero zero below apart = cc
marked-but (suc n) zero (suc k) below apart = true-marked n k (omega (arith, below))
marked-but (suc n) (suc gone) zero below apart = refl
marked-but (suc n) (suc gone) (suc k) below apart = marked-but n gone k (omega (arith, below)) (let e : (k == gone) ≡ false = grind (arith, nat_tests) in e)

-- ---- new places

true-rank : (n k : ℕ) → k ≤ n → rank (all_true n) k ≡ k
true-rank zero zero below = refl
true-rank zero (suc k) below = absurd (omega arith)
true-rank (suc n) zero below = refl
true-rank (suc n) (suc k) below = ap suc (true-rank n k (omega (arith, below)))

without-none : (gone : ℕ) → 0 ≡ place_without gone 0
without-none gone = grind (arith, nat_tests)

without-front : (k : ℕ) → k ≡ place_without 0 (suc k)
without-front k = grind (arith, nat_tests)

place_without-suc : (gone k : ℕ) → suc (place_without gone k) ≡ place_without (suc gone) (suc k)
place_without-suc gone k = grind (arith, nat_tests)

pub rank-but : (n gone k : ℕ) → k < n → rank (all_but n gone) k ≡ place_without gone k
rank-but zero gone k below = absurd (omega arith)
rank-but (suc n) zero zero below = without-none 0
rank-but (suc n) zero (suc k) below = true-rank n k (omega (arith, below)) ∙ without-front k
rank-but (suc n) (suc gone) zero below = without-none (suc gone)
rank-but (suc n) (suc gone) (suc k) below = ap suc (rank-but n gone k (omega (arith, below))) ∙ place_without-suc gone k

-- ---- what is left of a list

true-left : {A : Type 0} (xs : List A) → marked_of (all_true (length xs)) xs ≡ xs
true-left [] = refl
true-left (x ∷ xs) = ap (λ ys. x ∷ ys) (true-left xs)

pub left-but : {A : Type 0} (xs : List A) (gone : ℕ) → marked_of (all_but (length xs) gone) xs ≡ remove xs gone
left-but [] zero = refl
left-but [] (suc gone) = refl
left-but (x ∷ xs) zero = true-left xs
left-but (x ∷ xs) (suc gone) = ap (λ ys. x ∷ ys) (left-but xs gone)

pub left-long : {A B : Type 0} (marks : List Bool) (xs : List A) (ys : List B) → length xs ≡ length ys → length (marked_of marks xs) ≡ length (marked_of marks ys)
left-long [] xs ys same = refl
left-long (b ∷ bs) [] [] same = refl
left-long (b ∷ bs) [] (y ∷ ys) same = cc
left-long (b ∷ bs) (x ∷ xs) [] same = cc
left-long (true ∷ bs) (x ∷ xs) (y ∷ ys) same = ap suc (left-long bs xs ys (omega (arith, same)))
left-long (false ∷ bs) (x ∷ xs) (y ∷ ys) same = left-long bs xs ys (omega (arith, same))
