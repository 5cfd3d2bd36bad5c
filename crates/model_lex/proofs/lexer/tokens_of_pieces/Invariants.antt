use Rattle.std.proofs.Common.{◌≡◌, map, take}
use Rattle.model_core.specs.Code.TokenViews.{lexeme_of}
use Rattle.model_lex.specs.PieceViews.{piece_of}
use Rattle.model_lex.proofs.lexer.tokens_of_pieces.Given as goal

abbrev pub invariant-loop-piece : goal.invariant-loop-piece
invariant-loop-piece l = map (lexeme_of l.pieces.text.now) l.list ≡ map (piece_of l.pieces.text.now) (take l.piece-index l.pieces.list)
