-- Pairs put into lists, one for each place, entail what the pairs do.
use Rattle.std.proofs.Common.{◌≡◌, ◌⊎◌, inl, inr, ℕ, ◌<◌, ◌==◌, Bool, true, false, cond, List, [], ◌∷◌, ◌++◌, length, map, slice_index_or, refl, sym, ap, subst, arith, ◌∙◌, append-nil, append_assoc}
use Rattle.std.specs.List.{range_with_len}
use Rattle.std.proofs.lemmas.List.FromFn.{get_or-map-range_with_len, length-map-range_with_len}
use Rattle.std.proofs.lemmas.Bool.{eqb-true}
use Rattle.model_core.specs.Rules.LeastRelations.{over_pair}
use Rattle.model_core.proofs.Among.{Among, contained-among, among-front, among-back, among-either}
use Rattle.model_core.proofs.PlacesChanged.{same_number, same_on_range, place-mapped}
use Rattle.mark_laws.proofs.EntailedMarks.{entailed-below, Implied}
use Rattle.mark_laws.specs.PlacePairs.{successors_of, pairs_from}
use Rattle.var_slicing.specs.Inner.Linking.{no_lists, with_successor, lists_of_pairs}
use Rattle.mark_laws.proofs.PairsOfSuccessors.{successors-pairs, pairs-successors}

-- the second places of the pairs that have this one as their first
abbrev pub seconds : ℕ → List (ℕ × ℕ) → List ℕ
seconds j [] = []
seconds j ((i, k) ∷ pairs) = cond (i == j) (k ∷ []) [] ++ seconds j pairs

one_more : (b : Bool) (xs : List ℕ) (k : ℕ) → cond b (with_successor k xs) xs ≡ xs ++ cond b (k ∷ []) []
one_more true xs k = refl
one_more false xs k = sym (append-nil xs)

lists_of_pairs-mapped : (pairs : List (ℕ × ℕ)) (F : ℕ → List ℕ) (n : ℕ) → lists_of_pairs pairs (map F (range_with_len 0 n)) ≡ map (λ j. F j ++ seconds j pairs) (range_with_len 0 n)
lists_of_pairs-mapped [] F n = same_on_range F (λ j. F j ++ []) 0 n (λ j from. sym (append-nil (F j)))
lists_of_pairs-mapped ((i, k) ∷ pairs) F n =
    let G : ℕ → List ℕ = λ j. cond (i == j) (with_successor k (F j)) (F j) in
    ap (lists_of_pairs pairs) (place-mapped (with_successor k) F i i 0 n (omega arith)) ∙ lists_of_pairs-mapped pairs G n
    ∙ same_on_range (λ j. G j ++ seconds j pairs) (λ j. F j ++ seconds j ((i, k) ∷ pairs)) 0 n
    (λ j from. ap (λ xs. xs ++ seconds j pairs) (one_more (i == j) (F j) k) ∙ append_assoc (F j) (cond (i == j) (k ∷ []) []) (seconds j pairs))

lists_of_pairs-lists : (pairs : List (ℕ × ℕ)) (n : ℕ) → lists_of_pairs pairs (no_lists n) ≡ map (λ j. seconds j pairs) (range_with_len 0 n)
lists_of_pairs-lists pairs n = lists_of_pairs-mapped pairs (λ j. []) n

pub lists_of_pairs-length : (pairs : List (ℕ × ℕ)) (n : ℕ) → length (lists_of_pairs pairs (no_lists n)) ≡ n
lists_of_pairs-length pairs n = ap length (lists_of_pairs-lists pairs n) ∙ length-map-range_with_len (λ j. seconds j pairs) 0 n

second-pair : (pairs : List (ℕ × ℕ)) (j k : ℕ) → Among k (seconds j pairs) → Among (j, k) pairs
second-pair [] j k among = absurd among
second-pair ((i, n) ∷ pairs) j k among = by (i == j) refl (among-either (cond (i == j) (n ∷ []) []) (seconds j pairs) k among) (second-pair pairs j k) where
  by : (b : Bool) → (i == j) ≡ b → Among k (cond (i == j) (n ∷ []) []) ⊎ Among k (seconds j pairs) → (Among k (seconds j pairs) → Among (j, k) pairs) → Among (j, k) ((i, n) ∷ pairs)
  by b is (inr later) rest = inr (rest later)
  by true is (inl here) rest = here_is (subst (λ (b : Bool). Among k (cond b (n ∷ []) [])) is here) where
    here_is : Among k (n ∷ []) → Among (j, k) ((i, n) ∷ pairs)
    here_is (inl e) = inl (let first : i ≡ j = eqb-true i j is in let second : n ≡ k = e in cc)
    here_is (inr none) = absurd none
  by false is (inl here) rest = absurd (subst (λ (b : Bool). Among k (cond b (n ∷ []) [])) is here)

pair-second : (pairs : List (ℕ × ℕ)) (j k : ℕ) → Among (j, k) pairs → Among k (seconds j pairs)
pair-second [] j k among = absurd among
pair-second ((i, n) ∷ pairs) j k (inr later) = among-back (cond (i == j) (n ∷ []) []) (seconds j pairs) k (pair-second pairs j k later)
pair-second ((i, n) ∷ pairs) j k (inl e) =
    let first : i ≡ j = ap (λ (p : ℕ × ℕ). p.0) e in
    let second : n ≡ k = ap (λ (p : ℕ × ℕ). p.1) e in
    among-front (cond (i == j) (n ∷ []) []) (seconds j pairs) k (subst (λ (b : Bool). Among k (cond b (n ∷ []) [])) (sym (same_number i j first)) (inl second))

module _ (pairs : List (ℕ × ℕ)) (n : ℕ) where
  abbrev lists : List (List ℕ)
  lists = lists_of_pairs pairs (no_lists n)

  successors-seconds : (j : ℕ) → j < n → successors_of lists j ≡ seconds j pairs
  successors-seconds j below =
      ap (λ (next : List (List ℕ)). slice_index_or next j []) (lists_of_pairs-lists pairs n) ∙ get_or-map-range_with_len (λ j. seconds j pairs) 0 n j j [] below (omega arith)

  pub pairs-lists_of_pairs : (first : List ℕ) → Implied n first pairs (pairs_from 0 lists)
  pairs-lists_of_pairs first = record {
    over = λ j k among below before.
        over_pair j k below before
        (contained-among (pairs_from 0 lists) (j, k) (successors-pairs lists 0 j j k (omega arith)
        (subst (λ (ks : List ℕ). Among k ks) (sym (successors-seconds j (entailed-below n first (pairs_from 0 lists) before))) (pair-second pairs j k among))));
  }

  pub lists_of_pairs-pairs : (first : List ℕ) → Implied n first (pairs_from 0 lists) pairs
  lists_of_pairs-pairs first = record {
    over = λ j k among below before.
        let (i, is, there) = pairs-successors lists 0 j k among in
        let same : i ≡ j = omega (arith, is) in
        over_pair j k below before
        (contained-among pairs (j, k) (second-pair pairs j k (subst (λ (ks : List ℕ). Among k ks) (successors-seconds j (entailed-below n first pairs before)) (subst (λ (m : ℕ). Among k (successors_of lists m)) same there))));
  }
