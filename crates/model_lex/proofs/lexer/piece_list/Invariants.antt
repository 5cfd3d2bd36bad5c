use Rattle.std.proofs.Common.{◌-◌, length, map}
use Rattle.model_lex.specs.PieceViews.{piece_of}
use Rattle.model_lex.proofs.Cutting.{Cut}
use Rattle.model_lex.proofs.lexer.piece_list.Given as goal

abbrev pub invariant-loop-at : goal.invariant-loop-at
invariant-loop-at l = Cut l.text (map (piece_of l.text) l.list.items) l.at

abbrev pub decreases-loop-at : goal.decreases-loop-at
decreases-loop-at l = length l.text - l.at
