-- How a text is cut into tokens, as a relation.
use Rattle.std.specs.Prelude.{ℕ, ◌+◌, List, [], ◌∷◌, drop, Result, Ok}
use Rattle.model_core.specs.Text.Lexing.{Lexeme, front, front_length, after_front}

-- A text from the place `at` on is cut front by front: what it begins with is taken off, and comes before what the rest
-- gives, up to the end or to a byte that begins no token.
pub data IsCut : ℕ → List ℕ → Result (List Lexeme) ℕ → Type 0 where
  at_end : (at : ℕ) → IsCut at [] (Ok [])
  at_front : (at c : ℕ) (s : List ℕ) (later : Result (List Lexeme) ℕ) → IsCut (at + front_length (front c s)) (drop (front_length (front c s)) (c ∷ s)) later → IsCut at (c ∷ s) (after_front at (front c s) later)
