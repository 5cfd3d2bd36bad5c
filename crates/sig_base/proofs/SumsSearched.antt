-- A table's sums: the last is the sum of all weights, and the first that is above x is at the place at which the weights summed
-- so far exceed x. A later word has no smaller share.
use Rattle.std.proofs.Common.{◌≡◌, ℕ, zero, suc, ◌<◌, ◌≤◌, ◌+◌, ◌-◌, ◌*◌, ◌/◌, ◌%◌, ◌^◌, Bool, true, false, cond, List, [], ◌∷◌, ◌++◌, length, get_or, refl, ap, ◌∙◌, arith}
use Rattle.std.specs.Prelude.{sum, nat_lt}
use Rattle.std.proofs.Math.Nat.{mul-le-mul_right, mod-eq_of_lt, div-mul-le_self}
use Rattle.std.proofs.lemmas.Bool.{ltb-true, ltb-false}
use Rattle.std.proofs.Math.ListN.{get_or-append}
use Rattle.std.proofs.lemmas.List.{get_or_default, get_or_past, get_or_push}
use Rattle.std.proofs.lemmas.List.Sums.{sum_by-cons}
use Rattle.sig_base.specs.Stream.{share, place_exceeding}
use Rattle.sig_base.specs.RunningSums.{running_sums, AtMostBefore, StartsAt}

length-sums : (before : ℕ) (weights : List ℕ) → length (running_sums before weights) ≡ length weights
length-sums before [] = refl
length-sums before (w ∷ weights) = ap suc (length-sums (before + w) weights)

-- ---- the last one

last-behind : (x : ℕ) (xs : List ℕ) (d e : ℕ) → 0 < length xs → get_or (x ∷ xs) (length (x ∷ xs) - 1) d ≡ get_or xs (length xs - 1) e
last-behind x [] d e some = absurd (omega arith)
last-behind x (y ∷ xs) d e some =
    let behind : length (x ∷ y ∷ xs) - 1 ≡ suc (length (y ∷ xs) - 1) = omega arith in
    ap (λ i. get_or (x ∷ y ∷ xs) i d) behind ∙ get_or_default (y ∷ xs) (length (y ∷ xs) - 1) d e (omega arith)

last-sum : (before : ℕ) (weights : List ℕ) → get_or (running_sums before weights) (length (running_sums before weights) - 1) before ≡ before + sum weights
last-sum before [] = omega arith
last-sum before (w ∷ []) = omega (arith, sum_by-cons (λ (n : ℕ). n) w [])
last-sum before (w ∷ v ∷ weights) =
    last-behind (before + w) (running_sums (before + w) (v ∷ weights)) before (before + w) (omega arith)
    ∙ last-sum (before + w) (v ∷ weights) ∙ omega (arith, sum_by-cons (λ (n : ℕ). n) w (v ∷ weights))

pub last_is_sum : (weights sums : List ℕ) → sums ≡ running_sums 0 weights → get_or sums (length sums - 1) 0 ≡ sum weights
last_is_sum weights sums are = ap (λ (xs : List ℕ). get_or xs (length xs - 1) 0) are ∙ last-sum 0 weights ∙ omega arith

-- ---- the first above x

step-past : (x w place : ℕ) → w ≤ x → cond (nat_lt x w) 0 (suc place) ≡ suc place
step-past x w place past = pick (nat_lt x w) refl
  where
    pick : (b : Bool) → nat_lt x w ≡ b → cond b 0 (suc place) ≡ suc place
    pick true e = absurd (let h : x < w = ltb-true x w e in omega arith)
    pick false e = refl

step-here : (x w place : ℕ) → x < w → cond (nat_lt x w) 0 (suc place) ≡ 0
step-here x w place here = pick (nat_lt x w) refl
  where
    pick : (b : Bool) → nat_lt x w ≡ b → cond b 0 (suc place) ≡ 0
    pick true e = refl
    pick false e = absurd (let h : w ≤ x = ltb-false x w e in omega arith)

place-found : (before : ℕ) (weights : List ℕ) (x n : ℕ) → n ≤ length weights
    → ((i : ℕ) → i < n → get_or (running_sums before weights) i 0 ≤ before + x)
    → (n < length weights → before + x < get_or (running_sums before weights) n 0)
    → place_exceeding weights x ≡ n
place-found before [] x n few low high = omega arith
place-found before (w ∷ weights) x zero few low high =
    let above : before + x < before + w = high (omega arith) in
    step-here x w (place_exceeding weights (x - w)) (omega arith)
place-found before (w ∷ weights) x (suc n) few low high =
    let first : before + w ≤ before + x = low 0 (omega arith) in
    let same : (before + w) + (x - w) ≡ before + x = omega arith in
    step-past x w (place_exceeding weights (x - w)) (omega arith)
    ∙ ap suc (place-found (before + w) weights (x - w) n (omega arith)
    (λ i below. rw same (low (suc i) (omega arith)))
    (λ below. rw same (high (omega arith))))

pub first_above : (weights sums : List ℕ) (x n : ℕ) → sums ≡ running_sums 0 weights → AtMostBefore sums x n → (n < length sums → x < get_or sums n 0) → place_exceeding weights x ≡ n
first_above weights sums x n are before above =
    let long : length sums ≡ length weights = ap length are ∙ length-sums 0 weights in
    let few : n ≤ length sums = before.0 in
    let at : (i : ℕ) → get_or sums i 0 ≡ get_or (running_sums 0 weights) i 0 = λ i. ap (λ (xs : List ℕ). get_or xs i 0) are in
    place-found 0 weights x n (omega arith)
    (λ i below. let low : get_or sums i 0 ≤ x = before.1 i below in omega (arith, at i))
    (λ below. let high : x < get_or sums n 0 = above (omega arith) in omega (arith, at n))

-- ---- shares of later words

pub share_rises : (a b n : ℕ) → a ≤ b → share a n ≤ share b n
share_rises a b n order =
    let rises : a * n ≤ b * n = mul-le-mul_right n order in
    share-below (a * n) (b * n) rises
  where
    share-below : (p q : ℕ) → p ≤ q → p / 2 ^ 32 ≤ q / 2 ^ 32
    share-below p q h = omega arith

pub before_rises : (sums : List ℕ) (x y place : ℕ) → x ≤ y → AtMostBefore sums x place → AtMostBefore sums y place
before_rises sums x y place order before = (before.0, λ i below. let low : get_or sums i 0 ≤ x = before.1 i below in omega arith)

-- for a part without a start the search begins at the first place
pub start_known : (sums starts : List ℕ) (total shift : ℕ) → StartsAt sums total shift starts → (part : ℕ) → AtMostBefore sums (share (part * 2 ^ shift) total) (get_or starts part 0)
start_known sums starts total shift started part = pick (nat_lt part (length starts)) refl
  where
    pick : (b : Bool) → nat_lt part (length starts) ≡ b → AtMostBefore sums (share (part * 2 ^ shift) total) (get_or starts part 0)
    pick true e = started part (ltb-true part (length starts) e)
    pick false e =
        let none : get_or starts part 0 ≡ 0 = get_or_past starts part 0 (ltb-false part (length starts) e) in
        (omega arith, λ i below. absurd (omega arith))

-- ---- one part after the other

-- the starts of so many parts, and that of the next one
pub one_more_start : (sums starts : List ℕ) (total shift part place : ℕ) → length starts ≡ part
    → ((k : ℕ) → k < part → AtMostBefore sums (share (k * 2 ^ shift) total) (get_or starts k 0))
    → AtMostBefore sums (share (part * 2 ^ shift) total) place
    → (k : ℕ) → k < part + 1 → AtMostBefore sums (share (k * 2 ^ shift) total) (get_or (starts ++ place ∷ []) k 0)
one_more_start sums starts total shift part place long started last k below = pick (nat_lt k part) refl
  where
    pick : (b : Bool) → nat_lt k part ≡ b → AtMostBefore sums (share (k * 2 ^ shift) total) (get_or (starts ++ place ∷ []) k 0)
    pick true e = let earlier : k < part = ltb-true k part e in rw (get_or-append starts (place ∷ []) 0 k (omega (arith, long))) (started k earlier)
    pick false e =
        let past : part ≤ k = ltb-false k part e in
        let here : k ≡ part = omega arith in
        rw (here, get_or_push starts place 0 part long) last

-- no word of the next part has a smaller share than the first of this one
pub start_rises : (sums : List ℕ) (total shift part place : ℕ) → AtMostBefore sums (share (part * 2 ^ shift) total) place → AtMostBefore sums (share ((part + 1) * 2 ^ shift) total) place
start_rises sums total shift part place before =
    before_rises sums (share (part * 2 ^ shift) total) (share ((part + 1) * 2 ^ shift) total) place
    (share_rises (part * 2 ^ shift) ((part + 1) * 2 ^ shift) total (mul-le-mul_right (2 ^ shift) (omega arith)))
    before

-- the first word of a part is a word
pub first_word : (part shift : ℕ) → part ≤ 4294967295 / 2 ^ shift → part * 2 ^ shift % 4294967296 ≡ part * 2 ^ shift
first_word part shift within =
    let most : part * 2 ^ shift ≤ 4294967295 / 2 ^ shift * 2 ^ shift = mul-le-mul_right (2 ^ shift) within in
    mod-eq_of_lt (omega (arith, most, div-mul-le_self 4294967295 (2 ^ shift)))
