-- Pieces and tokens of one text are the same: both are the tokens of the text.
use Rattle.std.proofs.Common.{◌≡◌, ℕ, List, length, map, sym, ap, ◌∙◌}
use Rattle.std.specs.Prelude.{Result, Ok}
use Rattle.std.proofs.lemmas.List.{length-map}
use Rattle.model_core.specs.declared.token.Token.{Token}
use Rattle.model_core.specs.Text.Lexing.{Lexeme, tokens_of}
use Rattle.model_core.specs.Code.TokenViews.{lexeme_of}
use Rattle.model_lex.specs.declared.piece.Piece.{Piece}
use Rattle.model_lex.specs.PieceViews.{piece_of}

one_list : (r : Result (List Lexeme) ℕ) (xs ys : List Lexeme) → r ≡ Ok xs → r ≡ Ok ys → xs ≡ ys
one_list r xs ys e f = cc

pub pieces-are_tokens : (a b : List ℕ) (ps : List Piece) (ts : List Token) → a ≡ b → tokens_of a ≡ Ok (map (piece_of a) ps) → tokens_of b ≡ Ok (map (lexeme_of b) ts) → map (piece_of a) ps ≡ map (lexeme_of b) ts
pieces-are_tokens a b ps ts e pieces tokens = one_list (tokens_of b) (map (piece_of a) ps) (map (lexeme_of b) ts) (ap tokens_of (sym e) ∙ pieces) tokens

pub pieces-as_many : (a b : List ℕ) (ps : List Piece) (ts : List Token) → map (piece_of a) ps ≡ map (lexeme_of b) ts → length ps ≡ length ts
pieces-as_many a b ps ts e = sym (length-map ps (piece_of a)) ∙ ap length e ∙ length-map ts (lexeme_of b)
