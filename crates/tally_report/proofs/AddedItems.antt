-- Items that are added up stay of as many runs, and a loop that adds each one.
use Rattle.std.proofs.Common.{◌≡◌, ℕ, zero, suc, ◌+◌, ◌*◌, ◌<◌, ◌≤◌, List, [], ◌∷◌, ◌++◌, length, take, drop, take-append-drop, get_or, slice_set, All, min, refl, sym, ap, ap₂, ◌∙◌, subst, arith}
use Rattle.std.specs.Prelude.{◌+ℤ◌}
use Rattle.std.proofs.lemmas.List.Elements.{All-nil, All-cons, All-tail}
use Rattle.sig_base.specs.declared.limits.TheConstants.{STOP_MAX}
use Rattle.tally_report.specs.declared.item.Item.{Item}
use Rattle.tally_report.specs.declared.item.Item.TheVariants as items
use Rattle.tally_report.specs.SmallAreas.{IsSmallArea, IsOfRuns}
use Rattle.tally_report.specs.Totalling.{item_added, items_added}
use Rattle.tally_report.proofs.AreaBounds.{sum-small, area-longer}

pub more-runs : (m n : ℕ) (item : Item) → m ≤ n → IsOfRuns m item → IsOfRuns n item
more-runs m n (items.Cell span area) le small = area-longer (STOP_MAX * m) (STOP_MAX * n) area (omega (arith, le)) small
more-runs m n (items.Count k) le small = omega (arith, le, small)

one-run-more : (m : ℕ) (x y : Item) → IsOfRuns m x → IsOfRuns 1 y → IsOfRuns (m + 1) (item_added x y)
one-run-more m (items.Cell s a) (items.Cell t b) p q =
    let more : STOP_MAX * m + STOP_MAX * 1 ≡ STOP_MAX * (m + 1) = omega arith in
    subst (λ n. IsSmallArea n (a +ℤ b)) more (sum-small (STOP_MAX * m) (STOP_MAX * 1) a b p q)
one-run-more m (items.Count k) (items.Count l) p q = omega (arith, p, q)
one-run-more m (items.Cell s a) (items.Count l) p q = more-runs m (m + 1) (items.Cell s a) (omega arith) p
one-run-more m (items.Count k) (items.Cell t b) p q = omega (arith, p)

pub head-all : {X : Type 0} (P : X → Type 0) (x : X) (xs : List X) → All P (x ∷ xs) → P x
head-all P x xs all = all 0 x (omega arith)

pub all-added : (m : ℕ) (xs ys : List Item) → All (IsOfRuns m) xs → All (IsOfRuns 1) ys → All (IsOfRuns (m + 1)) (items_added xs ys)
all-added m [] ys p q = All-nil (IsOfRuns (m + 1))
all-added m (x ∷ xs) [] p q = λ k d within. more-runs m (m + 1) (get_or (x ∷ xs) k d) (omega arith) (p k d within)
all-added m (x ∷ xs) (y ∷ ys) p q =
    All-cons (IsOfRuns (m + 1)) (item_added x y) (items_added xs ys) (one-run-more m x y (head-all (IsOfRuns m) x xs p) (head-all (IsOfRuns 1) y ys q))
    (all-added m xs ys (All-tail (IsOfRuns m) x xs p) (All-tail (IsOfRuns 1) y ys q))

-- ---- a loop that adds each one

pub added-read : (xs others : List Item) (i : ℕ) (d : Item) → i < length xs → get_or (items_added (take i xs) others ++ drop i xs) i d ≡ get_or xs i d
added-read [] others i d within = absurd (omega (arith, within))
added-read (x ∷ xs) others zero d within = refl
added-read (x ∷ xs) [] (suc i) d within = ap (λ ys. get_or ys i d) (take-append-drop i xs)
added-read (x ∷ xs) (y ∷ others) (suc i) d within = added-read xs others i d (omega (arith, within))

one-added : (xs others : List Item) (i : ℕ) (d y : Item) → i < length xs → i < length others → y ≡ get_or others i y
    → slice_set (items_added (take i xs) others ++ drop i xs) i (item_added (get_or xs i d) y) ≡ items_added (take (suc i) xs) others ++ drop (suc i) xs
one-added [] others i d y within too is = absurd (omega (arith, within))
one-added (x ∷ xs) [] i d y within too is = absurd (omega (arith, too))
one-added (x ∷ xs) (z ∷ others) zero d y within too is = ap (λ a. item_added x a ∷ xs) is
one-added (x ∷ xs) (z ∷ others) (suc i) d y within too is = ap (λ ys. item_added x z ∷ ys) (one-added xs others i d y (omega (arith, within)) (omega (arith, too)) is)

pub added_more : (xs others now : List Item) (i n : ℕ) (x y z : Item) → n ≡ suc i → i < length xs → i < length others → now ≡ items_added (take i xs) others ++ drop i xs
    → x ≡ get_or now i x → y ≡ get_or others i y → z ≡ item_added x y → slice_set now i z ≡ items_added (take n xs) others ++ drop n xs
added_more xs others now i n x y z next within too so_far read read_too is =
    let old : x ≡ get_or xs i x = read ∙ ap (λ ys. get_or ys i x) so_far ∙ added-read xs others i x within in
    ap₂ (λ ys a. slice_set ys i a) so_far (is ∙ ap (λ a. item_added a y) old) ∙ one-added xs others i x y within too read_too ∙ ap (λ k. items_added (take k xs) others ++ drop k xs) (sym next)

pub added_all : (xs others : List Item) (n : ℕ) → min (length xs) (length others) ≤ n → items_added (take n xs) others ++ drop n xs ≡ items_added xs others
added_all [] others zero enough = refl
added_all [] others (suc n) enough = refl
added_all (x ∷ xs) [] zero enough = refl
added_all (x ∷ xs) [] (suc n) enough = ap (λ ys. x ∷ ys) (take-append-drop n xs)
added_all (x ∷ xs) (y ∷ others) zero enough = absurd (omega (arith, enough))
added_all (x ∷ xs) (y ∷ others) (suc n) enough = ap (λ ys. item_added x y ∷ ys) (added_all xs others n (omega (arith, enough)))
