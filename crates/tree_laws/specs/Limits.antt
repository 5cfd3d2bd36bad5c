-- Limits: where one would be passed, there is no sum.
use Rattle.std.specs.Prelude.{ℕ, zero, suc, ◌^◌, nat_le, ℤ, pos, neg_ℤ, Bool, true, ◌&&◌, cond, List, [], ◌∷◌, Option, Some, None}
use Rattle.model_core.specs.Run.State.{within}
use Rattle.tree_laws.specs.LinearSums.{SumTerms, NoTerms, Term, LinearSum}

infixl 10 ◌>>=◌
abbrev pub ◌>>=◌ : {A B : Type 0} → Option A → (A → Option B) → Option B
Some x >>= next = next x
None >>= next = None

abbrev pub each_some : {A B : Type 0} → (A → Option B) → List A → Option (List B)
each_some f [] = Some []
each_some f (a ∷ as_) = do
  b ← f a
  bs ← each_some f as_
  Some (b ∷ bs)

-- the most terms of a sum, the greatest coefficient, the greatest constant or end, and the most leaves of joined trees
abbrev pub TERMS_MAX : ℕ
TERMS_MAX = 64

abbrev pub COEFFICIENT_MAX : ℕ
COEFFICIENT_MAX = 2 ^ 40

abbrev pub CONSTANT_MAX : ℕ
CONSTANT_MAX = 2 ^ 80

abbrev pub LEAVES_MAX : ℕ
LEAVES_MAX = 1024

-- a least and a greatest number
pub record Interval : Type 0 where
  pub lo : ℤ
  pub hi : ℤ

abbrev pub up_to : ℕ → ℤ → Bool
up_to n x = within (neg_ℤ (pos n)) (pos n) x

unfoldable pub count : SumTerms → ℕ
count NoTerms = zero
count (Term c a ts) = suc (count ts)

unfoldable pub small_coefficients : SumTerms → Bool
small_coefficients NoTerms = true
small_coefficients (Term c a ts) = up_to COEFFICIENT_MAX c && small_coefficients ts

abbrev pub is_small : LinearSum → Bool
is_small s = nat_le (count s.terms) TERMS_MAX && (small_coefficients s.terms && up_to CONSTANT_MAX s.constant)

abbrev pub limited : LinearSum → Option LinearSum
limited s = cond (is_small s) (Some s) None

abbrev pub limited_ends : Interval → Option Interval
limited_ends e = cond (up_to CONSTANT_MAX e.lo && up_to CONSTANT_MAX e.hi) (Some e) None

abbrev pub leaves_fit : ℕ → Bool
leaves_fit n = nat_le n LEAVES_MAX
