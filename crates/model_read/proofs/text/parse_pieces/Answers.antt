-- The openings are counted, and then the reader of the grammar decides.
use Rattle.std.proofs.Common.{◌≡◌, refl, sym, ap, ◌∙◌, map}
use Rattle.sig_base.specs.declared.limits.TheConstants.{OPENINGS_MAX}
use Rattle.model_lex.specs.PieceViews.{piece_of}
use Rattle.model_core.specs.Code.WrittenViews.{written_model}
use Rattle.text_laws.specs.LanguageReader.{text_read}
use Rattle.text_laws.proofs.OpeningLaws.{none-is_few}
use Rattle.model_lex.specs.PiecesOfText.{pieces_lexemes}
use Rattle.model_read.proofs.WholeText.{deep-place, whole-ok, whole-unexpected, never_deep}
use Rattle.model_read.proofs.PlacedReads.{placed-names}
use Rattle.model_read.proofs.text.parse_pieces.Goals as goal

pub returns-in-Some-clause-too_deep : goal.returns-in-Some-clause-too_deep
returns-in-Some-clause-too_deep c = λ at e. deep-place OPENINGS_MAX (pieces_lexemes c.args.pieces.now) c.first_too_deep.result c.in-Some.at at (rw c.as_slice-list.ensures at (c.first_too_deep.ensures c.args.pieces.now.text.now)) c.in-Some.is e

pub returns : goal.returns
returns c =
    let text = c.args.pieces.now.text.now in
    let tokens = pieces_lexemes c.args.pieces.now in
    let are : c.new-cursor.result ≡ tokens = c.new-cursor.ensures ∙ ap (map (piece_of text)) c.as_slice-list.ensures in
    let none = sym (rw c.as_slice-list.ensures at (c.first_too_deep.ensures text)) ∙ c.in_default.is in
    let returned = placed-names written_model text c.whole-read.result c.whole-read.new.cursor (text_read tokens) c.with_place.result (c.with_place.ensures text refl) (rw are at c.whole-read.ensures) in
    record {
      ok = whole-ok text tokens c.whole-read.new.cursor OPENINGS_MAX c.with_place.result returned (none-is_few OPENINGS_MAX tokens none);
      unexpected = λ at e. (none, whole-unexpected text tokens c.whole-read.new.cursor c.with_place.result at returned e);
      too_deep = λ at e. absurd (never_deep text tokens c.whole-read.new.cursor c.with_place.result at returned e);
    }
