-- How many openings a text has, counted over its tokens.
use Rattle.std.specs.Prelude.{ℕ, List, Result, Ok, Err, length, map}
use Rattle.model_core.specs.EventGraph.{Expression, StateChange, EventEdge}
use Rattle.model_core.specs.Text.Lexing.{Lexeme, tokens_of}
use Rattle.model_core.specs.Text.Openings.{openings_of}
use Rattle.model_core.specs.Text.Canonical.{expression_text, change_line, edge_line}
use Rattle.worked_runs.specs.Texts.{desk, serve}

abbrev pub openings_in_tokens : Result (List Lexeme) ℕ → ℕ
openings_in_tokens (Ok tokens) = length (openings_of tokens)
openings_in_tokens (Err at) = 0

abbrev pub openings_in : List ℕ → ℕ
openings_in text = openings_in_tokens (tokens_of text)

-- of an expression of the desk, and of the lines of its vertex that serves
abbrev pub openings_of_text : Expression → ℕ
openings_of_text e = openings_in (expression_text desk e)

abbrev pub openings_of_changes : List ℕ
openings_of_changes = map (λ (c : StateChange). openings_in (change_line desk c)) serve.changes

abbrev pub openings_of_edges : List ℕ
openings_of_edges = map (λ (e : EventEdge). openings_in (edge_line desk e)) serve.edges
