-- Ranges declared one after another, and the old ones declared again.
use Rattle.std.proofs.Common.{◌≡◌, ℕ, zero, suc, ◌+◌, ◌<◌, ◌≤◌, List, [], ◌∷◌, length, map, take, slice_index_or, slice_set, min, nat_le, cond, Bool, true, false, refl, sym, ◌∙◌, ap, subst, arith}
use Rattle.std.proofs.lemmas.List.{get_or-map, length-map, map-set}
use Rattle.std.proofs.lemmas.Bool.Decides.{nat_tests}
use Rattle.model_core.specs.declared.model.Var.{Var}
use Rattle.model_core.specs.EventGraph.{EventGraph, Variable}
use Rattle.model_core.specs.Run.State.{no_variable}
use Rattle.model_core.specs.Code.Views.{variable_of}
use Rattle.model_core.specs.declared.var_range.VarRange.{VarRange}
use Rattle.model_core.specs.Ranges.OtherRanges.{declared_range, with_range, with_ranges, model_with_ranges, range_at}
use Rattle.model_core.specs.Ranges.Narrowed.{with_ranges_if_short}
use Rattle.model_core.specs.Ranges.Inductive.{Fitting, Inductive}
use Rattle.range_infer.specs.RangeVerdicts.{FailsFirst, MayNarrow, MayNotNarrow, too_long}
use Rattle.sig_base.specs.declared.limits.TheConstants.{TEXT_MAX}
use Rattle.model_core.specs.Text.Canonical.{canonical}
use Rattle.range_infer.proofs.ModelWithRanges.{as_many_variables}
use Rattle.model_core.proofs.EachOne.{every-map}

pub with_none : (vs : List Variable) → with_ranges vs [] ≡ vs
with_none [] = refl
with_none (v ∷ vs) = refl

declared_more : (vs : List Variable) (rs : List VarRange) (i : ℕ) → length rs ≡ length vs → i < length rs → slice_set (with_ranges vs (take i rs)) i (with_range (slice_index_or (with_ranges vs (take i rs)) i no_variable) (range_at rs i)) ≡ with_ranges vs (take (suc i) rs)
declared_more vs [] i e small = absurd (omega arith)
declared_more [] (r ∷ rs) i e small = absurd (omega arith)
declared_more (v ∷ vs) (r ∷ rs) zero e small = ap (λ (ws : List Variable). with_range v r ∷ ws) (sym (with_none vs))
declared_more (v ∷ vs) (r ∷ rs) (suc i) e small = ap (λ (ws : List Variable). with_range v r ∷ ws) (declared_more vs rs i (omega arith) (omega arith))

pub one_declared : (xs ys : List Var) (rs : List VarRange) (i : ℕ) (d v : Var) → length rs ≡ length xs → length ys ≡ length xs → i < length rs → map variable_of ys ≡ with_ranges (map variable_of xs) (take i rs) → variable_of v ≡ with_range (variable_of (slice_index_or ys i d)) (range_at rs i) → map variable_of (slice_set ys i v) ≡ with_ranges (map variable_of xs) (take (i + 1) rs)
one_declared xs ys rs i d v many same small so is =
    let there : i < length ys = omega (arith, many, same, small) in
    let next : suc i ≡ i + 1 = omega arith in
    map-set variable_of ys i v ∙
    (ap (slice_set (map variable_of ys) i) (is ∙ ap (λ (w : Variable). with_range w (range_at rs i)) (sym (get_or-map variable_of ys i d no_variable there))) ∙
    (ap (λ (ws : List Variable). slice_set ws i (with_range (slice_index_or ws i no_variable) (range_at rs i))) so ∙
    (declared_more (map variable_of xs) rs i (many ∙ sym (length-map xs variable_of)) small ∙ ap (λ (k : ℕ). with_ranges (map variable_of xs) (take k rs)) next)))

-- the old ranges bring the old variables back
pub declared_again : (vs : List Variable) (rs : List VarRange) → with_ranges (with_ranges vs rs) (map declared_range vs) ≡ vs
declared_again [] rs = refl
declared_again (v ∷ vs) [] = ap (λ (ws : List Variable). v ∷ ws) (ap (λ (ws : List Variable). with_ranges ws (map declared_range vs)) (sym (with_none vs)) ∙ declared_again vs [])
declared_again (v ∷ vs) (r ∷ rs) = ap (λ (ws : List Variable). v ∷ ws) (declared_again vs rs)

pub undone : (g : EventGraph) (rs : List VarRange) → model_with_ranges (model_with_ranges g rs) (map declared_range g.variables) ≡ g
undone g rs = ap (λ (vs : List Variable). record g { variables = vs }) (declared_again g.variables rs)

-- where a variable's range doesn't suffice, ranges aren't inductive
pub fails_not_inductive : (g : EventGraph) (ranges : List VarRange) (v : ℕ) → FailsFirst g ranges v → Inductive g ranges → ⊥
fails_not_inductive g ranges v f i =
    f.fails (record { begins = i.begins v f.variable; takes = every-map _ _ (λ taken held same. held) _ i.takes })

-- as many ranges were declared as there are variables now
pub as_many_again : (vars new : List Var) (rs old : List VarRange) → old ≡ map declared_range (map variable_of vars) → map variable_of new ≡ with_ranges (map variable_of vars) rs → length old ≡ length new
as_many_again vars new rs old are is =
    ap length are ∙ (length-map (map variable_of vars) declared_range ∙ (sym (as_many_variables (map variable_of vars) rs) ∙ (sym (ap length is) ∙ length-map new variable_of)))

-- the test of the length of the text, for ranges that are seen under another name
module _ (g h : EventGraph) (ranges seen : List VarRange) (fitting : Fitting g ranges) (inductive : Inductive g ranges) (same : seen ≡ ranges) (within : Bool) (is : within ≡ nat_le (length (canonical (model_with_ranges g seen))) TEXT_MAX) where
  short : within ≡ nat_le (length (canonical (model_with_ranges g ranges))) TEXT_MAX
  short = is ∙ ap (λ (rs : List VarRange). nat_le (length (canonical (model_with_ranges g rs))) TEXT_MAX) same

  few_of : (n : ℕ) → nat_le n TEXT_MAX ≡ true → n ≤ TEXT_MAX
  few_of n e = grind (arith, nat_tests)

  many_of : (n : ℕ) → nat_le n TEXT_MAX ≡ false → TEXT_MAX < n
  many_of n e = grind (arith, nat_tests)

  pub may_narrow : h ≡ with_ranges_if_short g seen → within ≡ true → MayNarrow g ranges × (h ≡ model_with_ranges g ranges)
  may_narrow made so =
      let test = sym short ∙ so in (
        record { fitting = fitting; inductive = inductive; short = few_of (length (canonical (model_with_ranges g ranges))) test },
        made ∙ (ap (with_ranges_if_short g) same ∙ ap (λ (b : Bool). cond b (model_with_ranges g ranges) g) test),
      )

  pub no_room : within ≡ false → MayNotNarrow g ranges 3
  no_room so = too_long fitting inductive (many_of (length (canonical (model_with_ranges g ranges))) (sym short ∙ so))

-- whether a text is short, by its length up to a limit that is greater
module _ (h k : EventGraph) (same : h ≡ k) (m r : ℕ) (is : r ≡ min (length (canonical h)) m) (greater : TEXT_MAX < m) where
  pub is_short : r ≤ TEXT_MAX → nat_le (length (canonical k)) TEXT_MAX ≡ true
  is_short few = subst (λ (h : EventGraph). nat_le (length (canonical h)) TEXT_MAX ≡ true) same (at_most (length (canonical h)) (omega (arith, is, few, greater))) where
    at_most : (n : ℕ) → n ≤ TEXT_MAX → nat_le n TEXT_MAX ≡ true
    at_most n e = grind (arith, nat_tests)

  pub is_long : TEXT_MAX < r → nat_le (length (canonical k)) TEXT_MAX ≡ false
  is_long more = subst (λ (h : EventGraph). nat_le (length (canonical h)) TEXT_MAX ≡ false) same (above (length (canonical h)) (omega (arith, is, more))) where
    above : (n : ℕ) → TEXT_MAX < n → nat_le n TEXT_MAX ≡ false
    above n e = grind (arith, nat_tests)

-- a fact of the old model, and of the new one where its text isn't too long
pub of_either : (P : EventGraph → Type 0) (g : EventGraph) (ranges : List VarRange) → P g → (length (canonical (model_with_ranges g ranges)) ≤ TEXT_MAX → P (model_with_ranges g ranges)) → P (with_ranges_if_short g ranges)
of_either P g ranges old new = by (nat_le (length (canonical (model_with_ranges g ranges))) TEXT_MAX) (few_of (length (canonical (model_with_ranges g ranges)))) where
  few_of : (n : ℕ) → nat_le n TEXT_MAX ≡ true → n ≤ TEXT_MAX
  few_of n e = grind (arith, nat_tests)

  by : (b : Bool) → (b ≡ true → length (canonical (model_with_ranges g ranges)) ≤ TEXT_MAX) → P (cond b (model_with_ranges g ranges) g)
  by true few = new (few refl)
  by false few = old
