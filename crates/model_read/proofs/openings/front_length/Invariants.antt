use Rattle.std.proofs.Common.{◌≡◌, ℕ, List, ◌++◌, map, take, drop}
use Rattle.model_core.specs.Text.Openings.{front_to_end}
use Rattle.model_lex.specs.PieceViews.{piece_of}
use Rattle.model_read.proofs.openings.front_length.Given as goal

-- the tokens before this place are in the front
abbrev pub invariant-loop-place : goal.invariant-loop-place
invariant-loop-place l = (text : List ℕ) → map (piece_of text) (take l.place l.tokens) ++ front_to_end (map (piece_of text) (drop l.place l.tokens)) ≡ front_to_end (map (piece_of text) l.fn.tokens)
