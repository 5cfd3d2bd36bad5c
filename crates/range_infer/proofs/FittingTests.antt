-- What the tests of ranges show.
use Rattle.std.proofs.Common.{◌≡◌, ℕ, ◌<◌, ℤ, int_le, Bool, true, false, not, ◌&&◌, ◌||◌, List, length, map, slice_index_or, Option, Some, None, refl, sym, ◌∙◌, ap, ap₂}
use Rattle.std.specs.Prelude.{IfSome}
use Rattle.std.specs.Ordering.{int_eq}
use Rattle.std.proofs.lemmas.List.{get_or-map}
use Rattle.std.proofs.lemmas.Bool.{and_from}
use Rattle.sig_base.proofs.Tests.{true-int_le, int_le-true}
use Rattle.model_core.specs.declared.model.Var.{Var}
use Rattle.model_core.specs.EventGraph.{EventGraph, Variable}
use Rattle.model_core.specs.Run.State.{no_variable, variable_at}
use Rattle.model_core.specs.Code.Views.{variable_of}
use Rattle.model_core.proofs.BothTrue.{and_first, and_second}
use Rattle.model_core.specs.declared.var_range.VarRange.{VarRange}
use Rattle.model_core.specs.Ranges.OtherRanges.{declared_range}
use Rattle.model_core.specs.Ranges.Inductive.{is_fixed, Encloses, FitsVariable}
use Rattle.model_core.proofs.SameExpressions.{true-int_eq}
use Rattle.range_infer.specs.Inner.RangeTests.{range_fits, encloses_kept}

module _ (g : EventGraph) (v : ℕ) (r : VarRange) where
  abbrev w : Variable
  w = variable_at g v

  fixed-declared : (fixed : Bool) → (not fixed || int_eq r.lo w.lo && int_eq r.hi w.hi) ≡ true → fixed ≡ true → r ≡ declared_range w
  fixed-declared true e is = ap₂ (λ (x y : ℤ). record { lo = x; hi = y }) (true-int_eq r.lo w.lo (and_first (int_eq r.lo w.lo) _ e)) (true-int_eq r.hi w.hi (and_second (int_eq r.lo w.lo) _ e))
  fixed-declared false e is = cc

  pub range_fits-fits : range_fits (is_fixed g v) w r ≡ true → FitsVariable g v r
  range_fits-fits e =
      let three = and_first (int_le r.lo r.hi && int_le w.lo r.lo && int_le r.hi w.hi) _ e in
      let two = and_first (int_le r.lo r.hi && int_le w.lo r.lo) _ three in
      record {
        ordered = true-int_le r.lo r.hi (and_first (int_le r.lo r.hi) _ two);
        inside = record { low = true-int_le w.lo r.lo (and_second (int_le r.lo r.hi) _ two); high = true-int_le r.hi w.hi (and_second (int_le r.lo r.hi && int_le w.lo r.lo) _ three) };
        fixed = fixed-declared (is_fixed g v) (and_second (int_le r.lo r.hi && int_le w.lo r.lo && int_le r.hi w.hi) _ e);
      }

-- the element at a place of the code's list
pub variable_there : (vars : List Var) (v : ℕ) (found : Var) → v < length vars → found ≡ slice_index_or vars v found → slice_index_or (map variable_of vars) v no_variable ≡ variable_of found
variable_there vars v found small is = get_or-map variable_of vars v found no_variable small ∙ sym (ap variable_of is)

pub encloses_kept-holds : (r : VarRange) (o : Option VarRange) → encloses_kept r o ≡ true → IfSome o (Encloses r)
encloses_kept-holds r None e = tt
encloses_kept-holds r (Some k) e = record { low = true-int_le r.lo k.lo (and_first (int_le r.lo k.lo) _ e); high = true-int_le k.hi r.hi (and_second (int_le r.lo k.lo) _ e) }

pub holds-encloses_kept : (r : VarRange) (o : Option VarRange) → IfSome o (Encloses r) → encloses_kept r o ≡ true
holds-encloses_kept r None h = refl
holds-encloses_kept r (Some k) h = and_from (int_le r.lo k.lo) (int_le k.hi r.hi) (int_le-true r.lo k.lo h.low) (int_le-true k.hi r.hi h.high)
