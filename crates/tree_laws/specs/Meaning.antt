-- When a valuation has what a model and what is known promise.
use Rattle.std.specs.Prelude.{ℕ, ◌^◌, ℤ, pos, [], ◌∷◌}
use lib.Signed.{◌≤ℤ◌}
use Rattle.tree_laws.specs.SumValues.{Valuation, terms_value}
use Rattle.tree_laws.specs.Limits.{Interval}
use Rattle.tree_laws.specs.SumEnds.{Ground, Known}

-- a number between two ends
pub record Within (e : Interval) (x : ℤ) : Type 0 where
  pub low : e.lo ≤ℤ x
  pub high : x ≤ℤ e.hi

-- each atom that isn't an operation lies between its ends
pub record Meets (base : Ground) (v : Valuation) : Type 0 where
  pub variable : (i : ℕ) → Within (base.variable i) (v.variable i)
  pub received : (i : ℕ) → Within (base.received i) (v.received i)
  pub word : (i : ℕ) → Within (base.word i) (v.word i)
  pub clock : Within (record { lo = pos 0; hi = pos (2 ^ 48) }) v.clock
  pub cell : (i : ℕ) (j : ℤ) → Within (base.cell i) (v.cell i j)

-- each list that something is known of lies between its ends
unfoldable pub Holds : Valuation → Known → Type 0
Holds v [] = Unit {0}
Holds v (f ∷ k) = Within f.ends (terms_value v f.terms) × Holds v k
