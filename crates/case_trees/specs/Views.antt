-- The plain value of each sum of the code, and what results say of definitions.
use Rattle.std.specs.Prelude.{◌≡◌, ℤ, true, false, Option, Some, None, Result, Ok, Err}
use Rattle.case_trees.specs.declared.limited.Coefficient.{Coefficient}
use Rattle.case_trees.specs.declared.sum.Sum.{Sum}
use Rattle.case_trees.specs.declared.tree_error.TreeError.{TreeError}
use Rattle.case_trees.specs.declared.tree_error.TreeError.TheVariants as errors
use Rattle.case_trees.specs.declared.terms.Terms.{Terms}
use Rattle.case_trees.specs.TermViews.{terms_of}
use Rattle.tree_laws.specs.LinearSums.{SumTerms, LinearSum}
use Rattle.tree_laws.specs.Limits.{up_to, small_coefficients, COEFFICIENT_MAX}

abbrev pub sum_of : Sum → LinearSum
sum_of s = record { terms = terms_of s.terms; constant = s.constant.value }

-- a result is that of the definition, TooLarge where the definition has none, or memory was refused
abbrev pub Gave : {A B : Type 0} → (A → B) → Option B → Result A TreeError → Type 0
Gave view o (Ok a) = o ≡ Some (view a)
Gave view o (Err errors.TooLarge) = o ≡ None
Gave view o (Err errors.NoMemory) = Unit {0}

-- a result is this number, which keeps the limit of a coefficient, or TooLarge since it doesn't
abbrev pub GaveCoefficient : ℤ → Result Coefficient TreeError → Type 0
GaveCoefficient n (Ok c) = (c.value ≡ n) × (up_to COEFFICIENT_MAX n ≡ true)
GaveCoefficient n (Err errors.TooLarge) = up_to COEFFICIENT_MAX n ≡ false
GaveCoefficient n (Err errors.NoMemory) = ⊥

-- a result is this list, whose coefficients keep their limits, TooLarge where one doesn't, or memory was refused
abbrev pub GaveSmall : SumTerms → Result Terms TreeError → Type 0
GaveSmall ts (Ok a) = (terms_of a ≡ ts) × (small_coefficients ts ≡ true)
GaveSmall ts (Err errors.TooLarge) = small_coefficients ts ≡ false
GaveSmall ts (Err errors.NoMemory) = Unit {0}
