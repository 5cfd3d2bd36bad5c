-- A product that 128 bits can't hold keeps no limit.
use Rattle.std.proofs.Common.{◌≡◌, ℤ, Bool, true, false, refl, FitsSigned, arith}
use Rattle.std.specs.Int.{w128}
use Rattle.std.proofs.lemmas.Int.{ints}
use Rattle.tree_laws.specs.Limits.{up_to, COEFFICIENT_MAX, CONSTANT_MAX}
use Rattle.case_trees.proofs.RoomForSums.{true-up_to}

refuted : (b : Bool) → (b ≡ true → ⊥) → b ≡ false
refuted true h = absurd (h refl)
refuted false h = refl

coefficient_fits : (x : ℤ) → up_to COEFFICIENT_MAX x ≡ true → FitsSigned w128 x
coefficient_fits x e = let h = true-up_to COEFFICIENT_MAX x e in let low = h.low in let high = h.high in omega (arith, ints, low, high)

constant_fits : (x : ℤ) → up_to CONSTANT_MAX x ≡ true → FitsSigned w128 x
constant_fits x e = let h = true-up_to CONSTANT_MAX x e in let low = h.low in let high = h.high in omega (arith, ints, low, high)

pub large-coefficient : (x : ℤ) → (FitsSigned w128 x → ⊥) → up_to COEFFICIENT_MAX x ≡ false
large-coefficient x h = refuted _ (λ e. h (coefficient_fits x e))

pub large-constant : (x : ℤ) → (FitsSigned w128 x → ⊥) → up_to CONSTANT_MAX x ≡ false
large-constant x h = refuted _ (λ e. h (constant_fits x e))

pub ruleset scaled_rules = (large-coefficient, large-constant)
