-- The tokens after the first so many are left.
use Rattle.std.proofs.Common.{drop, map, ap, ◌∙◌, sym}
use Rattle.std.proofs.lemmas.List.{drop-map}
use Rattle.model_lex.specs.PieceViews.{piece_of}
use Rattle.model_read.proofs.cursor.Cursor.from_place.Goals as goal

pub returns : goal.returns
returns c =
    let text = c.args.pieces.now.text.now in
    c.new.ensures ∙ ap (map (piece_of text)) (c.pieces_from.ensures ∙ ap (drop c.args.from) c.as_slice.ensures) ∙ sym (drop-map (piece_of text) c.args.from c.args.pieces.now.list)
