-- The order of tokens.
use Rattle.std.specs.Prelude.{ℕ, ◌<◌, ◌≤◌, List, [], ◌∷◌}
use Rattle.model_core.specs.Text.Lexing.{Lexeme}

-- Between two places the tokens are in order: each takes at least a byte, and begins where the one before it ends, or later.
abbrev pub TokensInOrder : ℕ → List Lexeme → ℕ → Type 0
TokensInOrder from [] to = from ≤ to
TokensInOrder from (t ∷ ts) to = (from ≤ t.from) × (t.from < t.to) × TokensInOrder t.to ts to
