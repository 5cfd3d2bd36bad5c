-- Something is put into lists for one element more, or for all.
use Rattle.std.proofs.Common.{◌≡◌, ℕ, suc, ◌+◌, ◌<◌, ◌≤◌, List, ◌∷◌, length, drop, slice_index_or, sym, ◌∙◌, ap, arith}
use Rattle.std.proofs.Math.Seq.{drop-cons}
use Rattle.std.proofs.lemmas.List.{drop_all}
use Rattle.range_infer.specs.declared.readers.PartPlace.{PartPlace}
use Rattle.range_infer.specs.Inner.Readers.{put_each}

module _ {A : Type 0} (put : ℕ → List (List PartPlace) → A → List (List PartPlace)) (xs : List A) (k : ℕ) (lists whole : List (List PartPlace)) (so : put_each put k lists (drop k xs) ≡ whole) where
  pub put_more : (d x : A) (next : List (List PartPlace)) → k < length xs → slice_index_or xs k d ≡ x → next ≡ put k lists x → put_each put (k + 1) next (drop (k + 1) xs) ≡ whole
  put_more d x next small is added =
      let one : k + 1 ≡ suc k = omega arith in
      let first : drop k xs ≡ x ∷ drop (suc k) xs = drop-cons xs k d small ∙ ap (λ (y : A). y ∷ drop (suc k) xs) is in
      ap (λ (n : ℕ). put_each put (k + 1) next (drop n xs)) one
      ∙ (ap (λ (ls : List (List PartPlace)). put_each put (k + 1) ls (drop (suc k) xs)) added ∙ (ap (put_each put k lists) (sym first) ∙ so))

  pub all_put : length xs ≤ k → lists ≡ whole
  all_put past = ap (put_each put k lists) (sym (drop_all k xs past)) ∙ so
