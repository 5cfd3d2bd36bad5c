-- A number that fits isn't moved.
use Rattle.std.proofs.Common.{◌≡◌, ◌≤ℤ◌, ℤ, true, int_le, FitsSigned, w64, arith}
use Rattle.std.specs.Int.{int_min, int_max}
use Rattle.std.proofs.lemmas.Int.{ints, clamps}
use Rattle.sig_base.proofs.Tests.{true-int_le}
use Rattle.model_core.specs.Rules.BoundsTable.{lowest, highest, nearest, fits}
use Rattle.model_core.proofs.BothTrue.{and_first, and_second}

clamped : (a b x : ℤ) → a ≤ℤ x → x ≤ℤ b → int_max a (int_min b x) ≡ x
clamped a b x low high = omega (arith, ints, clamps, low, high)

fits_low : (x : ℤ) → fits x ≡ true → lowest ≤ℤ x
fits_low x is = true-int_le lowest x (and_first (int_le lowest x) (int_le x highest) is)

fits_high : (x : ℤ) → fits x ≡ true → x ≤ℤ highest
fits_high x is = true-int_le x highest (and_second (int_le lowest x) (int_le x highest) is)

pub in_bits : (x : ℤ) → fits x ≡ true → FitsSigned w64 x
in_bits x is = let low = fits_low x is in let high = fits_high x is in omega (arith, ints, low, high)

pub nearest_is : (x : ℤ) → fits x ≡ true → nearest x ≡ x
nearest_is x is = clamped lowest highest x (fits_low x is) (fits_high x is)
