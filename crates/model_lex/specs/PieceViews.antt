-- Which plain token each piece of a text represents.
use Rattle.std.specs.Prelude.{ℕ, ◌+◌, List, slice_range}
use Rattle.model_core.specs.Text.Lexing.{LexemeKind, NameOf, Reserved, NumberOf, Mark, Lexeme, digits_value, literal_value}
use Rattle.model_lex.specs.declared.piece.Piece.{Piece}
use Rattle.model_lex.specs.declared.piece.PieceKind.{PieceKind}
use Rattle.model_lex.specs.declared.piece.PieceKind.TheVariants as kinds

-- what a piece of these bytes represents
abbrev pub piece_kind : List ℕ → PieceKind → LexemeKind
piece_kind bytes kinds.Name = NameOf bytes
piece_kind bytes (kinds.Word w) = Reserved w
piece_kind bytes kinds.Number = NumberOf (literal_value bytes) (digits_value bytes)
piece_kind bytes (kinds.Symbol s) = Mark s

abbrev pub piece_of : List ℕ → Piece → Lexeme
piece_of text p = record { from = p.from; to = p.from + p.length; kind = piece_kind (slice_range text p.from (p.from + p.length)) p.kind }
