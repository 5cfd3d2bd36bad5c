-- That a text has these tokens, and that two texts are the same, are plain facts, with one proof at most.
use Rattle.std.specs.Prelude.{◌≡◌, ℕ, List, Result}
use Rattle.std.proofs.Math.Nat.{ℕ_set}
use Rattle.std.proofs.Math.IntN.{ℤ_set}
use mathlib.Core.Sum.{⊎_set}
use mathlib.Core.List.{is_set as List-set}
use Rattle.model_core.specs.Text.Lexing.{Lexeme}

pub lexemes-prop : (a b : Result (List Lexeme) ℕ) → IsProp (a ≡ b)
lexemes-prop a b = Prim.hlevel (⊎_set, List-set, ℕ_set, ℤ_set)

pub bytes-prop : (a b : List ℕ) → IsProp (a ≡ b)
bytes-prop a b = Prim.hlevel (List-set, ℕ_set)
