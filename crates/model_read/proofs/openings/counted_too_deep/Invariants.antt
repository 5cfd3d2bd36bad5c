use Rattle.std.proofs.Common.{◌≡◌, ℕ, List, map, drop}
use Rattle.model_lex.specs.PieceViews.{piece_of}
use Rattle.model_core.specs.Text.Openings.{too_deep_at}
use Rattle.text_laws.specs.OpeningCount.{deep_from}
use Rattle.model_read.proofs.openings.counted_too_deep.Given as goal

-- what is found from here, with the room that is left, is what is found from the start
abbrev pub invariant-loop-token : goal.invariant-loop-token
invariant-loop-token l = (text : List ℕ) → deep_from l.limit l.room (map (piece_of text) (drop l.token-index l.tokens)) ≡ too_deep_at l.fn.limit (map (piece_of text) l.fn.tokens)
