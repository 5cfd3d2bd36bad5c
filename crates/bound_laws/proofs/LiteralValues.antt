-- The value of a number literal is its number.
use Rattle.std.proofs.Common.{◌≡◌, ℕ, ℤ, neg_ℤ, Some, Ok}
use Rattle.model_core.specs.EventGraph.{EventGraph, Expression, Number, Negative}
use Rattle.model_core.specs.Run.State.{State}
use Rattle.model_core.specs.Run.Value.{value_of}
use Rattle.model_core.specs.Rules.Exclusive.{number_literal, literal_number}
use Rattle.bound_laws.proofs.Soundness.NumberRows.{exact_ok}

module _ (g : EventGraph) (s : State) (clk : ℕ) where
  number-value : (e : Expression) (n x : ℤ) → number_literal e ≡ Some n → value_of g s clk e ≡ Ok x → x ≡ n
  number-value (Number m) n x is done = cc
  number-value e n x is done = cc

  negative-value : (a : Expression) (n x : ℤ) → literal_number (Negative a) ≡ Some n → value_of g s clk (Negative a) ≡ Ok x → x ≡ n
  negative-value (Number m) n x is done = let (same, low, high) = exact_ok (neg_ℤ m) x done in cc
  negative-value a n x is done = cc

  pub literal-value : (e : Expression) (n x : ℤ) → literal_number e ≡ Some n → value_of g s clk e ≡ Ok x → x ≡ n
  literal-value (Negative a) n x is done = negative-value a n x is done
  literal-value e n x is done = number-value e n x is done
