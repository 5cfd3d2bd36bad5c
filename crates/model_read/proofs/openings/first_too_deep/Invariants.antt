use Rattle.std.proofs.Common.{◌≡◌, ◌≤◌, ◌-◌, List, ℕ, drop, length, map}
use Rattle.model_lex.specs.PieceViews.{piece_of}
use Rattle.model_core.specs.Text.Openings.{too_deep_at}
use Rattle.text_laws.specs.OpeningCount.{deep_from}
use Rattle.model_read.proofs.openings.first_too_deep.Given as goal

-- what is found from here on is what is found from the start
abbrev pub invariant-loop-end : goal.invariant-loop-end
invariant-loop-end l = (l.at ≤ length l.tokens) × ((text : List ℕ) → deep_from l.limit l.limit (map (piece_of text) (drop l.at l.tokens)) ≡ too_deep_at l.limit (map (piece_of text) l.tokens))

abbrev pub decreases-loop-end : goal.decreases-loop-end
decreases-loop-end l = length l.tokens - l.at
