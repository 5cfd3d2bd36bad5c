-- Words for writing down tokens.
use Rattle.std.specs.Prelude.{ℕ, List, [], map, Result, Ok, Err}
use Rattle.model_core.specs.Text.Lexing.{Lexeme, LexemeKind}

-- a token from a byte up to the byte after its last
abbrev pub token : ℕ → ℕ → LexemeKind → Lexeme
token from to kind = record { from = from; to = to; kind = kind }

-- the tokens of a text, in turn
abbrev pub kinds_of : Result (List Lexeme) ℕ → List LexemeKind
kinds_of (Ok tokens) = map (λ (t : Lexeme). t.kind) tokens
kinds_of (Err at) = []
