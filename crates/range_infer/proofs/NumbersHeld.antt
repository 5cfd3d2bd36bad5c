-- A variable with the range where a comparison holds.
use Rattle.std.proofs.Common.{◌≡◌, ℤ, int_le, Bool, true, false, cond, refl, sym, ◌∙◌, ap, ap₂}
use Rattle.model_core.specs.EventGraph.{Variable}
use Rattle.model_core.specs.declared.var_range.VarRange.{VarRange}
use Rattle.model_core.specs.Ranges.OtherRanges.{with_range}
use Rattle.model_core.specs.Ranges.Refined.{is_number_scalar, unless_empty}

pub range_held : (v : Variable) (r m n : VarRange) (lo hi : ℤ) → is_number_scalar v ≡ true → lo ≡ n.lo → hi ≡ n.hi → m.lo ≡ cond (int_le lo hi) lo r.lo → m.hi ≡ cond (int_le lo hi) hi r.hi → with_range v m ≡ cond (is_number_scalar v) (unless_empty (with_range v r) n) (with_range v r)
range_held v r m n lo hi number at_lo at_hi low high =
    ap₂ (λ (x y : ℤ). with_range v (record { lo = x; hi = y })) low high ∙ (ap₂ (λ (x y : ℤ). with_range v (record { lo = cond (int_le x y) x r.lo; hi = cond (int_le x y) y r.hi })) at_lo at_hi ∙ (by (int_le n.lo n.hi) ∙ sym (ap (λ (b : Bool). cond b (unless_empty (with_range v r) n) (with_range v r)) number))) where
      by : (b : Bool) → with_range v (record { lo = cond b n.lo r.lo; hi = cond b n.hi r.hi }) ≡ cond b (with_range (with_range v r) n) (with_range v r)
      by true = refl
      by false = refl
