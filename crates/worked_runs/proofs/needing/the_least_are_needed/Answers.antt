-- The first ones and the pairs are computed. Of growing no pair leads to the second variable but from itself.
use Rattle.std.proofs.Common.{◌≡◌, ℕ, zero, suc, [], ◌∷◌, refl, sym, ap, lit<, lt_irrefl, arith}
use Rattle.model_core.specs.Rules.BoundsTable.{exact_bounds}
use Rattle.model_core.specs.Rules.LeastRelations.{Entailed, from_first, over_pair}
use Rattle.mark_laws.proofs.EntailedMarks.{entailed-below}
use Rattle.worked_runs.proofs.needing.the_least_are_needed.Goals as goal

none_is_one : (k : ℕ) → 0 ≡ k → k ≡ 1 → ⊥
none_is_one k none one = omega (arith, none, one)

-- the places below two that follow from the first, where each place follows from itself alone
one_is_not : {k : ℕ} → k ≡ 1 → Entailed 2 (0 ∷ []) ((1, 1) ∷ (0, 0) ∷ (1, 1) ∷ []) k → ⊥
one_is_not one (from_first k below (zero, l, at)) = none_is_one k at one
one_is_not one (from_first k below (suc i, l, at)) = omega arith
one_is_not one (over_pair j k below before (zero, l, at)) = one_is_not (ap (λ (p : ℕ × ℕ). p.0) (sym at)) before
one_is_not one (over_pair j k below before (suc zero, l, at)) = none_is_one k (ap (λ (p : ℕ × ℕ). p.1) at) one
one_is_not one (over_pair j k below before (suc (suc zero), l, at)) = one_is_not (ap (λ (p : ℕ × ℕ). p.0) (sym at)) before
one_is_not one (over_pair j k below before (suc (suc (suc i)), l, at)) = omega arith

pub returns-clause-at_once : goal.returns-clause-at_once
unfolding exact_bounds
returns-clause-at_once c = from_first 0 (lit< tt) (0, lit< tt, refl)

pub returns-clause-for_another : goal.returns-clause-for_another
unfolding exact_bounds
returns-clause-for_another c = over_pair 0 1 (lit< tt) (from_first 0 (lit< tt) (0, lit< tt, refl)) (0, lit< tt, refl)

pub returns-clause-not_for_itself : goal.returns-clause-not_for_itself
unfolding exact_bounds
returns-clause-not_for_itself c e = one_is_not refl e

pub returns-clause-no_other : goal.returns-clause-no_other
unfolding exact_bounds
returns-clause-no_other c e = lt_irrefl 2 (entailed-below _ _ _ e)
