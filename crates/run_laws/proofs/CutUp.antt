-- Lists that are put into one list and cut up again.
use Rattle.std.proofs.Common.{◌≡◌, ℕ, ◌+◌, ℤ, ◌&&◌, List, [], ◌∷◌, ◌++◌, length, take, drop, map, refl, sym, ap, ap₂, ◌∙◌, arith, length-append, length-drop}
use Rattle.std.specs.Prelude.{sum}
use Rattle.std.specs.Ordering.{int_eq}
use Rattle.std.proofs.lemmas.List.Sums.{sum_by-cons}
use Rattle.std.proofs.Math.Seq.{take-append_seam, drop-append_seam}
use Rattle.std.proofs.lemmas.List.{take-append-drop, length-take-le}
use Rattle.std.proofs.Math.Bool.{and_assoc}
use lib.Pointwise.{pointwise}
use Rattle.model_core.specs.Run.Pending.{same_values}
use Rattle.model_core.specs.Saved.Cells.{cut_up, in_one_list}

pub cut_up-in_one_list : (lists : List (List ℤ)) → cut_up (map (λ values. length values) lists) (in_one_list lists) ≡ lists
cut_up-in_one_list [] = refl
cut_up-in_one_list (xs ∷ lists) = rw (take-append_seam xs (in_one_list lists), drop-append_seam xs (in_one_list lists)) (ap (λ l. xs ∷ l) (cut_up-in_one_list lists))

nothing-left : (xs : List ℤ) → 0 ≡ length xs → [] ≡ xs
nothing-left [] e = refl
nothing-left (x ∷ xs) e = absurd (omega (arith, e))

-- what is cut up whole is the same once it is put into one list, in lists of the lengths
pub in_one_list-cut_up : (sizes : List ℕ) (xs : List ℤ) → sum sizes ≡ length xs → in_one_list (cut_up sizes xs) ≡ xs
in_one_list-cut_up [] xs long = nothing-left xs long
in_one_list-cut_up (n ∷ sizes) xs long =
    let both = sum_by-cons (λ (x : ℕ). x) n sizes in
    ap (λ l. take n xs ++ l) (in_one_list-cut_up sizes (drop n xs) (omega (arith, both, long, length-drop n xs))) ∙ take-append-drop n xs

pub lengths-cut_up : (sizes : List ℕ) (xs : List ℤ) → sum sizes ≡ length xs → map (λ values. length values) (cut_up sizes xs) ≡ sizes
lengths-cut_up [] xs long = refl
lengths-cut_up (n ∷ sizes) xs long =
    let both = sum_by-cons (λ (x : ℕ). x) n sizes in
    ap₂ (λ k ks. k ∷ ks) (length-take-le n xs (omega (arith, both, long))) (lengths-cut_up sizes (drop n xs) (omega (arith, both, long, length-drop n xs)))

pub length-in_one_list : (lists : List (List ℤ)) → length (in_one_list lists) ≡ sum (map (λ values. length values) lists)
length-in_one_list [] = refl
length-in_one_list (xs ∷ lists) = length-append xs (in_one_list lists) ∙ ap (λ n. length xs + n) (length-in_one_list lists) ∙ sym (sum_by-cons (λ (x : ℕ). x) (length xs) (map (λ values. length values) lists))

-- ---- comparing

pub same-append : (as_ bs cs ds : List ℤ) → length as_ ≡ length cs → same_values (as_ ++ bs) (cs ++ ds) ≡ (same_values as_ cs && same_values bs ds)
same-append [] bs [] ds long = refl
same-append [] bs (c ∷ cs) ds long = absurd (omega (arith, long))
same-append (a ∷ as_) bs [] ds long = absurd (omega (arith, long))
same-append (a ∷ as_) bs (c ∷ cs) ds long = ap (λ t. int_eq a c && t) (same-append as_ bs cs ds (omega (arith, long))) ∙ sym (and_assoc (int_eq a c) (same_values as_ cs) (same_values bs ds))

head-same : (n m : ℕ) (ns ms : List ℕ) → n ∷ ns ≡ m ∷ ms → (n ≡ m) × (ns ≡ ms)
head-same n m ns ms e = (cc, cc)

-- lists of the same lengths are compared as one list
pub same-in_one_list : (xss yss : List (List ℤ)) → map (λ values. length values) xss ≡ map (λ values. length values) yss → pointwise same_values xss yss ≡ same_values (in_one_list xss) (in_one_list yss)
same-in_one_list [] [] long = refl
same-in_one_list [] (ys ∷ yss) long = cc
same-in_one_list (xs ∷ xss) [] long = cc
same-in_one_list (xs ∷ xss) (ys ∷ yss) long =
    let (here, later) = head-same (length xs) (length ys) (map (λ values. length values) xss) (map (λ values. length values) yss) long in
    ap (λ t. same_values xs ys && t) (same-in_one_list xss yss later) ∙ sym (same-append xs (in_one_list xss) ys (in_one_list yss) here)
