-- The pieces from a place on, as the code cuts them off.
use Rattle.std.proofs.Common.{◌≡◌, ℕ, ◌-◌, List, length, map, take, drop, sym, ap, ◌∙◌}
use Rattle.std.proofs.lemmas.List.{take_rest, drop-map}
use Rattle.model_lex.specs.declared.piece.Piece.{Piece}
use Rattle.model_lex.specs.PieceViews.{piece_of}

pub cut-is_dropped : (text : List ℕ) (slice list : List Piece) (from : ℕ) → slice ≡ list → map (piece_of text) (take (length slice - from) (drop from slice)) ≡ drop from (map (piece_of text) list)
cut-is_dropped text slice list from e = ap (map (piece_of text)) (take_rest slice from ∙ ap (drop from) e) ∙ sym (drop-map (piece_of text) from list)
