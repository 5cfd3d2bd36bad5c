-- Ranges that grow one after another, at each place.
use Rattle.std.proofs.Common.{◌≡◌, ℕ, ◌<◌, ◌==◌, Bool, true, false, cond, List, [], ◌∷◌, length, slice_set, refl, sym, ◌∙◌, ap, subst, arith}
use Rattle.std.specs.List.{fold}
use Rattle.std.proofs.lemmas.Bool.Decides.{nat_tests}
use Rattle.std.proofs.lemmas.List.{length-set, get_or-set_same, get_or-set_other}
use Rattle.model_core.specs.EventGraph.{EventGraph}
use Rattle.model_core.specs.Run.State.{variable_at}
use Rattle.model_core.specs.declared.incoming.Incoming.{Incoming}
use Rattle.model_core.specs.declared.var_range.VarRange.{VarRange}
use Rattle.model_core.specs.Ranges.OtherRanges.{declared_range, no_range, range_at}
use Rattle.model_core.specs.Ranges.Incoming.{kept_range}
use Rattle.model_core.specs.Ranges.Inductive.{is_fixed}
use Rattle.model_core.specs.Ranges.Inference.{hull, grown_range, ends_moved, next_range}
use Rattle.range_infer.specs.Inner.GrownBy.{grown_by}

module _ (g : EventGraph) where
  one_grown : (ranges : List VarRange) (i : Incoming) (v : ℕ) → v < length ranges → range_at (grown_by g ranges i) v ≡ grown_range g v (range_at ranges v) i
  one_grown ranges i v small = by (i.variable == v) refl where
    r : VarRange
    r = hull (range_at ranges i.variable) (kept_range (variable_at g i.variable) i.bounds)

    by : (b : Bool) → (i.variable == v) ≡ b → range_at (slice_set ranges i.variable r) v ≡ cond b (hull (range_at ranges v) (kept_range (variable_at g v) i.bounds)) (range_at ranges v)
    by true e =
        let same : i.variable ≡ v = grind (arith, nat_tests) in
        subst (λ (w : ℕ). range_at (slice_set ranges w (hull (range_at ranges w) (kept_range (variable_at g w) i.bounds))) v ≡ hull (range_at ranges v) (kept_range (variable_at g v) i.bounds)) (sym same) (get_or-set_same ranges v (hull (range_at ranges v) (kept_range (variable_at g v) i.bounds)) no_range small)
    by false e = get_or-set_other ranges i.variable v r no_range (grind (arith, nat_tests))

  pub all_grown : (ranges : List VarRange) (is : List Incoming) (v : ℕ) → v < length ranges → range_at (fold (grown_by g) ranges is) v ≡ fold (grown_range g v) (range_at ranges v) is
  all_grown ranges [] v small = refl
  all_grown ranges (i ∷ is) v small =
      all_grown (grown_by g ranges i) is v (omega (arith, small, length-set ranges i.variable (hull (range_at ranges i.variable) (kept_range (variable_at g i.variable) i.bounds)))) ∙
      ap (λ (r : VarRange). fold (grown_range g v) r is) (one_grown ranges i v small)

  pub next_given : (late : Bool) (ranges all : List VarRange) (takes : List Incoming) (v : ℕ) → v < length ranges → all ≡ fold (grown_by g) ranges takes → cond (is_fixed g v) (range_at ranges v) (ends_moved late (declared_range (variable_at g v)) (range_at ranges v) (range_at all v)) ≡ next_range g late takes ranges v
  next_given late ranges all takes v small is =
      ap (λ (r : VarRange). cond (is_fixed g v) (range_at ranges v) (ends_moved late (declared_range (variable_at g v)) (range_at ranges v) r)) (ap (λ (rs : List VarRange). range_at rs v) is ∙ all_grown ranges takes v small)
