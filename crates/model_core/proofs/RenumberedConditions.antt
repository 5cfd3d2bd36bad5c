-- Conditions whose variables take new numbers.
use Rattle.std.proofs.Common.{◌≡◌, ℕ, true, false, refl}
use Rattle.model_core.specs.EventGraph.{Expression, Truth}
use Rattle.model_core.specs.Rules.Settle.{is_literal_true}
use Rattle.model_core.specs.Rules.Slice.{expression_renumbered}

-- the literal `true` names no variable, so no other condition becomes it
pub literal-renumbered : (f : ℕ → ℕ) (e : Expression) → is_literal_true (expression_renumbered f e) ≡ is_literal_true e
literal-renumbered f (Truth true) = refl
literal-renumbered f (Truth false) = refl
literal-renumbered f e = refl
