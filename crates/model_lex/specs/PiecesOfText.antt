-- The pieces of a text, as plain data.
use Rattle.std.specs.Prelude.{List, map}
use Rattle.model_core.specs.Text.Lexing.{Lexeme}
use Rattle.model_lex.specs.PieceViews.{piece_of}
use Rattle.model_lex.specs.declared.piece_list.Pieces.{Pieces}

-- what the pieces represent, in their text
abbrev pub pieces_lexemes : Pieces → List Lexeme
pieces_lexemes t = map (piece_of t.text.now) t.list
