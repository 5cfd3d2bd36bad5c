-- The sort of a token by the kind of its piece.
use Rattle.std.specs.Prelude.{ℕ}
use Rattle.model_core.specs.Text.Format.{TokenSort, AName, ANumber, AWord, ASymbol, Single}
use Rattle.model_core.specs.Text.Expressions.{LanguageFormat}
use Rattle.model_lex.specs.declared.piece.PieceKind.{PieceKind}
use Rattle.model_lex.specs.declared.piece.PieceKind.TheVariants as kinds

abbrev pub sort_of_kind : PieceKind → TokenSort
sort_of_kind kinds.Name = AName
sort_of_kind (kinds.Word w) = AWord w
sort_of_kind kinds.Number = ANumber
sort_of_kind (kinds.Symbol s) = ASymbol s

-- a token of this kind, as its place
abbrev pub of_kind : PieceKind → LanguageFormat ℕ
of_kind kind = Single (sort_of_kind kind) (λ t. t.from)
