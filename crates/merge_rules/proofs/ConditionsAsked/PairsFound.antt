-- The last condition, the pair at a vertex, and the first pair of all, as the code finds them.
use Rattle.std.proofs.Common.{◌≡◌, ◌∙◌, ℕ, zero, suc, ◌+◌, ◌-◌, ◌<◌, nat_le, Bool, true, false, cond, List, [], ◌∷◌, ◌++◌, length, min, slice_get, Option, Some, None, option_map, take, refl, sym, ap, arith}
use Rattle.std.proofs.lemmas.Bool.Decides.{nat_tests}
use Rattle.std.specs.Prelude.{is_none, is_some, filter_map}
use Rattle.std.specs.List.{range_with_len, cons_option}
use Rattle.std.specs.Option.{option_map_or, option_or}
use Rattle.sig_base.specs.declared.limits.TheConstants.{TEXT_MAX}
use Rattle.sig_base.proofs.Lists.{places_from}
use Rattle.model_core.specs.EventGraph.{EventGraph, EventEdge}
use Rattle.model_core.specs.Run.Step.{vertex_at}
use Rattle.model_core.specs.Text.Canonical.{canonical}
use Rattle.model_core.specs.Rules.Conditions.{first_failed}
use Rattle.model_core.specs.Rules.Merge.{merge_conditions, merged, has_few_parts}
use Rattle.model_core.proofs.BothTrue.{and_second}
use Rattle.model_core.proofs.AllHold.{none_before}
use Rattle.merge_rules.proofs.OneStepForTwo.MergeHolds.{conditions_hold}

-- ---- the last condition

suc_or : (o : Option ℕ) (last : Bool) (n : ℕ) → option_or (option_map (λ n. suc n) o) (cond last None (Some (suc n))) ≡ option_map (λ n. suc n) (option_or o (cond last None (Some n)))
suc_or None true n = refl
suc_or None false n = refl
suc_or (Some m) last n = refl

-- the first ones and the last, together
pub with_last : (before : List Bool) (last : Bool) → option_or (first_failed before) (cond last None (Some (suc (length before)))) ≡ first_failed (before ++ last ∷ [])
with_last [] true = refl
with_last [] false = refl
with_last (false ∷ before) last = refl
with_last (true ∷ before) last = suc_or (first_failed before) last (suc (length before)) ∙ ap (option_map (λ n. suc n)) (with_last before last)

-- where no condition fails none of the first ones does
pub front_holds : (n : ℕ) (conditions : List Bool) → first_failed conditions ≡ None → first_failed (take n conditions) ≡ None
front_holds zero conditions none = refl
front_holds (suc n) [] none = refl
front_holds (suc n) (true ∷ conditions) none = ap (option_map (λ n. suc n)) (front_holds n conditions (none_before (first_failed conditions) none))
front_holds (suc n) (false ∷ conditions) none = cc

exact_within : (limit top whole seen : ℕ) → nat_le whole limit ≡ true → limit < top → seen ≡ min whole top → seen ≡ whole
exact_within limit top whole seen within beyond is = grind (arith, nat_tests)

-- where no condition fails the result's length is counted to its end
pub counted_whole : (g : EventGraph) (first second : ℕ) (top seen : ℕ) → first_failed (merge_conditions g first second) ≡ None → TEXT_MAX < top → seen ≡ min (length (canonical (merged g first second))) top → seen ≡ length (canonical (merged g first second))
counted_whole g first second top seen none beyond is =
    exact_within TEXT_MAX top (length (canonical (merged g first second))) seen (and_second (has_few_parts (vertex_at (merged g first second) first)) _ (conditions_hold g first second none).within) beyond is

-- ---- the pair at a vertex

module _ (g : EventGraph) (first second : ℕ) where
  abbrev pair : Option EventEdge → Option (ℕ × ℕ)
  pair o = option_map_or (λ (e : EventEdge). cond (is_none (first_failed (merge_conditions g first e.target))) (Some (first, e.target)) None) o None

  abbrev pair_unless_failed : Option ℕ → ℕ → Option (ℕ × ℕ)
  pair_unless_failed failed target = cond (is_none failed) (Some (first, target)) None

  pub pair_found : (o : Option EventEdge) (failed : Option ℕ) → option_map (λ (e : EventEdge). e.target) o ≡ Some second → failed ≡ first_failed (merge_conditions g first second) → failed ≡ None → Some (first, second) ≡ pair o
  pair_found None failed leads is none = cc
  pair_found (Some e) failed leads is none =
      let same : e.target ≡ second = cc in
      ap (λ f. pair_unless_failed f second) (sym none ∙ is) ∙ ap (λ t. pair_unless_failed (first_failed (merge_conditions g first t)) t) (sym same)

  pub pair_refused : (o : Option EventEdge) (failed : Option ℕ) (n : ℕ) → option_map (λ (e : EventEdge). e.target) o ≡ Some second → failed ≡ first_failed (merge_conditions g first second) → failed ≡ Some n → None ≡ pair o
  pair_refused None failed n leads is some = cc
  pair_refused (Some e) failed n leads is some =
      let same : e.target ≡ second = cc in
      ap (λ f. pair_unless_failed f second) (sym some ∙ is) ∙ ap (λ t. pair_unless_failed (first_failed (merge_conditions g first t)) t) (sym same)

-- ---- the first that is found from a place on

module _ {X : Type 0} (h : ℕ → Option X) where
  abbrev pub first_from : ℕ → ℕ → Option X
  first_from i n = slice_get (filter_map h (range_with_len i (n - i))) 0

  found_here : (i n : ℕ) (x : X) → i < n → h i ≡ Some x → first_from i n ≡ Some x
  found_here i n x below is =
      ap (λ m. slice_get (filter_map h (range_with_len i m)) 0) (places_from i n below)
      ∙ ap (λ o. slice_get (cons_option o (filter_map h (range_with_len (i + 1) (n - (i + 1))))) 0) is

  found_later : (i n : ℕ) → i < n → h i ≡ None → first_from i n ≡ first_from (i + 1) n
  found_later i n below is =
      ap (λ m. slice_get (filter_map h (range_with_len i m)) 0) (places_from i n below)
      ∙ ap (λ o. slice_get (cons_option o (filter_map h (range_with_len (i + 1) (n - (i + 1))))) 0) is

  -- what is found at a place is the first from there on, and where nothing is found there the first is a later one
  pub some_here : (o whole : Option X) (i n : ℕ) → i < n → o ≡ h i → is_some o ≡ true → first_from i n ≡ whole → o ≡ whole
  some_here None whole i n below at some so_far = cc
  some_here (Some x) whole i n below at some so_far = sym (found_here i n x below (sym at)) ∙ so_far

  pub none_here : (o whole : Option X) (i n : ℕ) → i < n → o ≡ h i → is_some o ≡ false → first_from i n ≡ whole → first_from (i + 1) n ≡ whole
  none_here None whole i n below at none so_far = sym (found_later i n below (sym at)) ∙ so_far
  none_here (Some x) whole i n below at none so_far = cc
