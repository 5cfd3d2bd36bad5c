-- A loop over applications or names: what one more of them comes to, and what is left at the end.
use Rattle.std.proofs.Common.{◌≡◌, ◌∙◌, ℕ, suc, ◌+◌, ◌≤◌, List, [], ◌∷◌, ◌++◌, map, drop, length, Option, Some, None, option_map, refl, sym, ap, arith}
use Rattle.std.proofs.lemmas.List.{append_assoc, append-nil, drop_all}
use Rattle.std.specs.Option.{option_map_or, option_and_then}
use Rattle.model_core.specs.EventGraph.{EventGraph}
use Rattle.model_core.specs.Text.Numbering.{each_numbered}
use Rattle.model_core.specs.Rules.Reduction.{RuleApplication, applied, first_bad}
use Rattle.model_core.specs.Rules.Verdict.{graph_reached}

-- ---- what is left of a list

pub left_none : {A B : Type 0} (view : A → B) (xs : List A) (i : ℕ) → length xs ≤ i → map view (drop i xs) ≡ []
left_none view xs i past = ap (map view) (drop_all i xs past)

-- ---- applications

counted_on : (o : Option ℕ) (i : ℕ) → option_map (λ k. k + i) (option_map suc o) ≡ option_map (λ k. k + (i + 1)) o
counted_on None i = refl
counted_on (Some k) i = ap Some (omega arith)

module _ (g : EventGraph) (a : RuleApplication) (left later : List RuleApplication) (is : left ≡ a ∷ later) where
  -- the application was made
  module _ (next : EventGraph) (made : applied g a ≡ Some next) where
    pub bad_later : (whole : Option ℕ) (i : ℕ) → whole ≡ option_map (λ k. k + i) (first_bad g left) → whole ≡ option_map (λ k. k + (i + 1)) (first_bad next later)
    bad_later whole i so_far =
        so_far
        ∙ ap (λ as_. option_map (λ k. k + i) (first_bad g as_)) is
        ∙ ap (λ o. option_map (λ k. k + i) (option_map_or (λ n. option_map suc (first_bad n later)) o (Some 1))) made
        ∙ counted_on (first_bad next later) i

    pub reached_later : (whole : Option EventGraph) → whole ≡ graph_reached g left → whole ≡ graph_reached next later
    reached_later whole so_far = so_far ∙ ap (graph_reached g) is ∙ ap (option_and_then (λ n. graph_reached n later)) made

  -- it could not be
  pub bad_here : applied g a ≡ None → (whole : Option ℕ) (i : ℕ) → whole ≡ option_map (λ k. k + i) (first_bad g left) → Some (i + 1) ≡ whole
  bad_here refused whole i so_far =
      ap Some (omega arith)
      ∙ sym (so_far ∙ ap (λ as_. option_map (λ k. k + i) (first_bad g as_)) is ∙ ap (λ o. option_map (λ k. k + i) (option_map_or (λ n. option_map suc (first_bad n later)) o (Some 1))) refused)

module _ (g : EventGraph) (left : List RuleApplication) (is : left ≡ []) where
  -- all were made
  pub none_bad : (whole : Option ℕ) (i : ℕ) → whole ≡ option_map (λ k. k + i) (first_bad g left) → None ≡ whole
  none_bad whole i so_far = sym (so_far ∙ ap (λ as_. option_map (λ k. k + i) (first_bad g as_)) is)

  pub all_reached : (whole : Option EventGraph) → whole ≡ graph_reached g left → whole ≡ Some g
  all_reached whole so_far = so_far ∙ ap (graph_reached g) is

-- ---- names

joined-put : {B : Type 0} (found : List B) (y : B) (o : Option (List B)) → option_map (λ ys. found ++ ys) (option_and_then (λ ys. Some (y ∷ ys)) o) ≡ option_map (λ ys. (found ++ y ∷ []) ++ ys) o
joined-put found y None = refl
joined-put found y (Some ys) = ap Some (sym (append_assoc found (y ∷ []) ys))

module _ {A B : Type 0} (f : A → Option B) (left : List A) (found : List B) (whole : Option (List B)) (so_far : whole ≡ option_map (λ ys. found ++ ys) (each_numbered f left)) where
  -- the next one has a place, or it has none
  pub named_later : (x : A) (later : List A) (y : B) → left ≡ x ∷ later → f x ≡ Some y → whole ≡ option_map (λ ys. (found ++ y ∷ []) ++ ys) (each_numbered f later)
  named_later x later y is at =
      so_far
      ∙ ap (λ xs. option_map (λ ys. found ++ ys) (each_numbered f xs)) is
      ∙ ap (λ o. option_map (λ ys. found ++ ys) (option_and_then (λ y. option_and_then (λ ys. Some (y ∷ ys)) (each_numbered f later)) o)) at
      ∙ joined-put found y (each_numbered f later)

  pub not_named : (x : A) (later : List A) → left ≡ x ∷ later → f x ≡ None → None ≡ whole
  not_named x later is at =
      sym (so_far
      ∙ ap (λ xs. option_map (λ ys. found ++ ys) (each_numbered f xs)) is
      ∙ ap (λ o. option_map (λ ys. found ++ ys) (option_and_then (λ y. option_and_then (λ ys. Some (y ∷ ys)) (each_numbered f later)) o)) at)

  -- all have places
  pub every_named : left ≡ [] → Some found ≡ whole
  every_named is = ap Some (sym (append-nil found)) ∙ sym (so_far ∙ ap (λ xs. option_map (λ ys. found ++ ys) (each_numbered f xs)) is)
