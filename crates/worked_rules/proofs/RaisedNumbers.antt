-- Numbers that are all 0 and are raised once.
use Rattle.std.proofs.Common.{◌≡◌, ℕ, zero, suc, ◌+◌, ◌<◌, cond, List, replicate, refl, ap, ◌∙◌, arith}
use Rattle.std.specs.Prelude.{slice_index}
use Rattle.model_core.specs.Rules.MarkedPlaces.{is_among}
use Rattle.use_analysis.specs.UseNumbers.{changed_where, raised_at}

-- the number at a place, with so many places before the first
raised_there : (vars : List ℕ) (before count v place : ℕ) → before + v ≡ place → v < count → slice_index (changed_where (is_among vars) (λ n. n + 1) before (replicate count 0)) v ≡ cond (is_among vars place) 1 0
raised_there vars before zero v place is small = absurd (omega (arith, small))
raised_there vars before (suc count) zero place is small = ap (λ k. cond (is_among vars k) 1 0) (omega (arith, is))
raised_there vars before (suc count) (suc v) place is small = raised_there vars (before + 1) count v place (omega (arith, is)) (omega (arith, small))

-- nothing counts yet
nothing_there : (count v : ℕ) → v < count → slice_index (replicate count 0) v ≡ 0
nothing_there zero v small = absurd (omega (arith, small))
nothing_there (suc count) zero small = refl
nothing_there (suc count) (suc v) small = nothing_there count v (omega (arith, small))

-- numbers that are all 0, raised at these variables
pub raised_once : (vars : List ℕ) (count v : ℕ) (before after_delay : List ℕ) → before ≡ replicate count 0 → after_delay ≡ raised_at vars before → v < count → slice_index after_delay v ≡ cond (is_among vars v) 1 0
raised_once vars count v before after_delay begun raised small =
    ap (λ ns. slice_index ns v) (raised ∙ ap (raised_at vars) begun) ∙ raised_there vars 0 count v v (omega arith) small

-- numbers that are all 0, and stay
pub not_raised : (count v : ℕ) (before after_delay : List ℕ) → before ≡ replicate count 0 → after_delay ≡ before → v < count → slice_index after_delay v ≡ 0
not_raised count v before after_delay begun same small = ap (λ ns. slice_index ns v) (same ∙ begun) ∙ nothing_there count v small
