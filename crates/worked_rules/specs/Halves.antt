-- Words for what several lists of examples have in common.
use Rattle.std.specs.Prelude.{ℕ, Bool, List}
use Rattle.model_core.specs.Rules.Uses.{places_where}

-- the places of the elements that are equal to this one
abbrev pub equal_at : {A : Type 0} → (A → A → Bool) → A → List A → List ℕ
equal_at same x xs = places_where (same x) 0 xs
