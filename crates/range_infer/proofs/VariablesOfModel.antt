-- The variables of a model of the code with ranges put in place, at a place that is looked up.
use Rattle.std.proofs.Common.{◌≡◌, ℕ, zero, suc, ◌<◌, ◌≤◌, List, [], ◌∷◌, length, map, slice_index_or, slice_set, refl, sym, ◌∙◌, ap, arith}
use Rattle.std.proofs.lemmas.List.{get_or-map, length-map, get_or_past, set_past}
use Rattle.model_core.specs.declared.model.Var.{Var}
use Rattle.model_core.specs.EventGraph.{Variable}
use Rattle.model_core.specs.Run.State.{no_variable}
use Rattle.model_core.specs.Code.Views.{variable_of}
use Rattle.model_core.specs.declared.var_range.VarRange.{VarRange}
use Rattle.model_core.specs.Ranges.OtherRanges.{with_range, with_ranges, range_at}
use Rattle.range_infer.proofs.ModelWithRanges.{range_given, as_many_variables}

put-ranged : (vs : List Variable) (rs : List VarRange) (v : ℕ) (r : VarRange) → length rs ≡ length vs → with_ranges vs (slice_set rs v r) ≡ slice_set (with_ranges vs rs) v (with_range (slice_index_or vs v no_variable) r)
put-ranged [] [] v r e = refl
put-ranged [] (x ∷ rs) v r e = absurd (omega arith)
put-ranged (w ∷ vs) [] v r e = absurd (omega arith)
put-ranged (w ∷ vs) (x ∷ rs) zero r e = refl
put-ranged (w ∷ vs) (x ∷ rs) (suc v) r e = ap (λ (ws : List Variable). with_range w x ∷ ws) (put-ranged vs rs v r (omega arith))

module _ (vars : List Var) (rs : List VarRange) (many : length rs ≡ length vars) (v : ℕ) where
  abbrev vs : List Variable
  vs = map variable_of vars

  as_many : length rs ≡ length vs
  as_many = many ∙ sym (length-map vars variable_of)

  abbrev now : List Variable
  now = with_ranges vs rs

  module _ (found : Var) (small : v < length vars) (is : found ≡ slice_index_or vars v found) where
    variable_found : slice_index_or vs v no_variable ≡ variable_of found
    variable_found = get_or-map variable_of vars v found no_variable small ∙ sym (ap variable_of is)

    pub ranged_found : slice_index_or now v no_variable ≡ with_range (variable_of found) (range_at rs v)
    ranged_found = range_given vs rs as_many v ∙ ap (λ (w : Variable). with_range w (range_at rs v)) variable_found

    -- its range is put in its place where something holds of it
    pub refined_found : (m : VarRange) (f : Variable → Variable) → with_range (variable_of found) m ≡ f (with_range (variable_of found) (range_at rs v)) → with_ranges vs (slice_set rs v m) ≡ slice_set now v (f (slice_index_or now v no_variable))
    refined_found m f holds =
        put-ranged vs rs v m as_many ∙ ap (slice_set now v) (ap (λ (w : Variable). with_range w m) variable_found ∙ (holds ∙ ap f (sym ranged_found)))

  pub refined_past : (x : Variable) → length vars ≤ v → now ≡ slice_set now v x
  refined_past x past = sym (set_past now v x (omega (arith, past, as_many_variables vs rs, length-map vars variable_of)))

  pub ranged_past : length vars ≤ v → slice_index_or now v no_variable ≡ no_variable
  ranged_past past = get_or_past now v no_variable (omega (arith, past, as_many_variables vs rs, length-map vars variable_of))
