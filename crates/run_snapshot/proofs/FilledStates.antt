-- A state whose variables take their values one after the other.
use Rattle.std.proofs.Common.{◌≡◌, ℕ, zero, suc, ◌+◌, ◌-◌, ◌<◌, ◌≤◌, ℤ, true, List, [], ◌∷◌, ◌++◌, length, map, take, drop, replicate, slice_index_or, slice_set, refl, sym, ap, ap₂, ◌∙◌, subst, arith, add-one, append_assoc, drop-cons, length-drop}
use Rattle.std.proofs.lemmas.List.{take_more_set, drop-drop, length-replicate, length-set}
use lib.Pointwise.{pointwise_long}
use Rattle.model_core.specs.EventGraph.{Variable}
use Rattle.model_core.specs.Run.State.{State, no_variable, cell_count, within, in_ranges}
use Rattle.model_core.specs.Saved.Cells.{cut_up, cell_variables}
use Rattle.model_core.proofs.RangesTogether.{split-ranges}

-- the initial values of each variable
abbrev beginnings : List Variable → State
beginnings variables = map (λ v. replicate (cell_count v) v.initial) variables

drop-set : (s : State) (i : ℕ) (x : List ℤ) → drop (suc i) (slice_set s i x) ≡ drop (suc i) s
drop-set [] i x = refl
drop-set (y ∷ s) zero x = refl
drop-set (y ∷ s) (suc i) x = drop-set s i x

module _ (variables : List Variable) (values : List ℤ) where
  -- the first i variables have their values, which end here
  pub record Filled (i from : ℕ) (s : State) : Type 0 where
    pub many : length s ≡ length variables
    pub inside : in_ranges (cell_variables (drop i variables)) (drop from values) ≡ true
    pub filled : cut_up (map cell_count variables) values ≡ take i s ++ cut_up (map cell_count (drop i variables)) (drop from values)
    pub fresh : drop i s ≡ beginnings (drop i variables)
    pub within_all : from ≤ length values

  module _ (i from : ℕ) (s : State) (below : i < length variables) (f : Filled i from s) where
    abbrev v : Variable
    v = slice_index_or variables i no_variable

    next : drop i variables ≡ v ∷ drop (i + 1) variables
    next = drop-cons variables i no_variable below ∙ ap (λ k. v ∷ drop k variables) (sym (add-one i))

    row : drop i s ≡ slice_index_or s i [] ∷ drop (i + 1) s
    row = let there : i < length s = omega (arith, f.many, below) in drop-cons s i [] there ∙ ap (λ k. slice_index_or s i [] ∷ drop k s) (sym (add-one i))

    pub row_long : length (slice_index_or s i []) ≡ cell_count v
    row_long =
        let both : slice_index_or s i [] ∷ drop (i + 1) s ≡ replicate (cell_count v) v.initial ∷ beginnings (drop (i + 1) variables) = sym row ∙ f.fresh ∙ ap beginnings next in
        let same : slice_index_or s i [] ≡ replicate (cell_count v) v.initial = cc in
        ap length same ∙ length-replicate (cell_count v) v.initial

    parts : (in_ranges (replicate (cell_count v) v) (take (cell_count v) (drop from values)) ≡ true) × (in_ranges (cell_variables (drop (i + 1) variables)) (drop (cell_count v) (drop from values)) ≡ true)
    parts =
        subst (λ (n : ℕ). (in_ranges (replicate (cell_count v) v) (take n (drop from values)) ≡ true) × (in_ranges (cell_variables (drop (i + 1) variables)) (drop n (drop from values)) ≡ true)) (length-replicate (cell_count v) v)
        (split-ranges (replicate (cell_count v) v) (cell_variables (drop (i + 1) variables)) (drop from values) (ap (λ vs. in_ranges (cell_variables vs) (drop from values)) (sym next) ∙ f.inside))

    piece_long : length (take (cell_count v) (drop from values)) ≡ cell_count v
    piece_long = sym (pointwise_long (λ (v : Variable) (x : ℤ). within v.lo v.hi x) (replicate (cell_count v) v) (take (cell_count v) (drop from values)) parts.0) ∙ length-replicate (cell_count v) v

    pub piece_fits : from + length (slice_index_or s i []) ≤ length values
    piece_fits = omega (arith, row_long, front-fits (cell_count v) (drop from values) piece_long, length-drop from values, f.within_all) where
      front-fits : (n : ℕ) (xs : List ℤ) → length (take n xs) ≡ n → n ≤ length xs
      front-fits zero xs e = omega arith
      front-fits (suc n) [] e = absurd (omega (arith, e))
      front-fits (suc n) (x ∷ xs) e = let h : n ≤ length xs = front-fits n xs (omega (arith, e)) in omega arith

    -- the values that the variable takes
    module _ (piece : List ℤ) (is : piece ≡ take (from + length (slice_index_or s i []) - from) (drop from values)) where
      piece-is : piece ≡ take (cell_count v) (drop from values)
      piece-is = let n : from + length (slice_index_or s i []) - from ≡ cell_count v = omega (arith, row_long) in is ∙ ap (λ k. take k (drop from values)) n

      pub piece_inside : in_ranges (replicate (length piece) v) piece ≡ true
      piece_inside = ap₂ (λ n xs. in_ranges (replicate n v) xs) (ap length piece-is ∙ piece_long) piece-is ∙ parts.0

      pub one_filled : Filled (i + 1) (from + length (slice_index_or s i [])) (slice_set s i piece)
      one_filled =
          let there : i < length s = omega (arith, f.many, below) in
          let upto : from + length (slice_index_or s i []) ≡ from + cell_count v = omega (arith, row_long) in
          let left : drop (cell_count v) (drop from values) ≡ drop (from + length (slice_index_or s i [])) values = drop-drop (cell_count v) from values ∙ ap (λ k. drop k values) (sym upto) in
          record {
            many = length-set s i piece ∙ f.many;
            inside = ap (in_ranges (cell_variables (drop (i + 1) variables))) (sym left) ∙ parts.1;
            filled =
                f.filled ∙ ap (λ vs. take i s ++ cut_up (map cell_count vs) (drop from values)) next
                ∙ sym (append_assoc (take i s) (take (cell_count v) (drop from values) ∷ []) (cut_up (map cell_count (drop (i + 1) variables)) (drop (cell_count v) (drop from values))))
                ∙ ap₂ (λ front rest. front ++ cut_up (map cell_count (drop (i + 1) variables)) rest) (ap (λ x. take i s ++ x ∷ []) (sym piece-is) ∙ sym (take_more_set s i piece there)) left;
            fresh = fresh-later;
            within_all = piece_fits;
          } where
            fresh-later : drop (i + 1) (slice_set s i piece) ≡ beginnings (drop (i + 1) variables)
            fresh-later =
                let both : slice_index_or s i [] ∷ drop (i + 1) s ≡ replicate (cell_count v) v.initial ∷ beginnings (drop (i + 1) variables) = sym row ∙ f.fresh ∙ ap beginnings next in
                let others : drop (i + 1) s ≡ beginnings (drop (i + 1) variables) = cc in
                ap (λ k. drop k (slice_set s i piece)) (add-one i) ∙ drop-set s i piece ∙ ap (λ k. drop k s) (sym (add-one i)) ∙ others
