-- The openings of the front are counted, and then the reader of the grammar decides.
use Rattle.std.proofs.Common.{◌≡◌, refl, sym, ◌∙◌, drop}
use Rattle.std.specs.Prelude.{Ok, Err}
use Rattle.std.proofs.lemmas.Result.{err_from_is_err_and}
use Rattle.std.proofs.lemmas.List.{length-map}
use Rattle.sig_base.specs.declared.limits.TheConstants.{OPENINGS_MAX}
use Rattle.model_lex.specs.PieceViews.{piece_of}
use Rattle.model_core.specs.Code.WrittenViews.{written_model}
use Rattle.model_core.specs.Text.Openings.{front_to_end}
use Rattle.text_laws.specs.LanguageReader.{text_and_rest}
use Rattle.text_laws.proofs.OpeningLaws.{none-is_few}
use Rattle.model_lex.specs.PiecesOfText.{pieces_lexemes}
use Rattle.model_lex.specs.declared.parse_error.ParseError.TheVariants as errors
use Rattle.model_read.proofs.WholeText.{deep-place, front-left, front-ok, front-counted, same-error, error-unexpected, error-never_deep}
use Rattle.model_read.proofs.PiecesFrom.{cut-is_dropped}
use Rattle.model_read.proofs.PlacedReads.{placed-names}
use Rattle.model_read.proofs.text.parse_front_pieces.Goals as goal

pub returns-in-Some-clause-too_deep : goal.returns-in-Some-clause-too_deep
returns-in-Some-clause-too_deep c = λ at e.
    deep-place OPENINGS_MAX (front_to_end (drop c.args.from (pieces_lexemes c.args.pieces.now))) c.first_too_deep.result c.in-Some.at at
    (front-counted c.args.pieces.now.text.now c.as_slice.result.now c.args.pieces.now.list c.args.from c.front_length.result OPENINGS_MAX c.first_too_deep.result c.as_slice.ensures (c.first_too_deep.ensures c.args.pieces.now.text.now) (c.front_length.ensures.front c.args.pieces.now.text.now)) c.in-Some.is e

pub overflow_sub-result : goal.overflow_sub-result
overflow_sub-result c =
    let text = c.args.pieces.now.text.now in
    let all = pieces_lexemes c.args.pieces.now in
    let are : c.new-cursor.result ≡ drop c.args.from all = c.new-cursor.ensures ∙ cut-is_dropped text c.as_slice.result.now c.args.pieces.now.list c.args.from c.as_slice.ensures in
    let returned = placed-names written_model text c.model-read.result c.model-read.new.cursor (text_and_rest (drop c.args.from all)) (Ok c.in_ok-model.model) (c.in_ok-model.ensures text refl) (rw are at c.model-read.ensures) in
    rw (c.len-left.ensures, c.len.ensures) (front-left all c.model-read.new.cursor c.args.from _ (written_model c.in_ok-model.model) (sym (length-map c.args.pieces.now.list (piece_of text))) c.requires returned)

pub returns-clause-ok : goal.returns-clause-ok
returns-clause-ok c =
    let text = c.args.pieces.now.text.now in
    let all = pieces_lexemes c.args.pieces.now in
    let are : c.new-cursor.result ≡ drop c.args.from all = c.new-cursor.ensures ∙ cut-is_dropped text c.as_slice.result.now c.args.pieces.now.list c.args.from c.as_slice.ensures in
    let returned = placed-names written_model text c.model-read.result c.model-read.new.cursor (text_and_rest (drop c.args.from all)) (Ok c.in_ok-model.model) (c.in_ok-model.ensures text refl) (rw are at c.model-read.ensures) in
    let counted = front-counted text c.as_slice.result.now c.args.pieces.now.list c.args.from c.front_length.result OPENINGS_MAX c.first_too_deep.result c.as_slice.ensures (c.first_too_deep.ensures text) (c.front_length.ensures.front text) in
    rw (c.len-left.ensures, c.len.ensures) (front-ok all c.model-read.new.cursor c.args.from _ OPENINGS_MAX (written_model c.in_ok-model.model) (sym (length-map c.args.pieces.now.list (piece_of text))) c.requires returned
    (none-is_few OPENINGS_MAX (front_to_end (drop c.args.from all)) (sym counted ∙ c.in_default.is)))

pub returns-in_err-model : goal.returns-in_err-model
returns-in_err-model c =
    let text = c.args.pieces.now.text.now in
    let tokens = drop c.args.from (pieces_lexemes c.args.pieces.now) in
    let are : c.new-cursor.result ≡ tokens = c.new-cursor.ensures ∙ cut-is_dropped text c.as_slice.result.now c.args.pieces.now.list c.args.from c.as_slice.ensures in
    let returned = placed-names written_model text c.model-read.result c.model-read.new.cursor (text_and_rest tokens) (Err c.in_err-model.field-0.0) (c.in_err-model.ensures text refl) (rw are at c.model-read.ensures) in
    let counted = front-counted text c.as_slice.result.now c.args.pieces.now.list c.args.from c.front_length.result OPENINGS_MAX c.first_too_deep.result c.as_slice.ensures (c.first_too_deep.ensures text) (c.front_length.ensures.front text) in
    let p = err_from_is_err_and c.from_residual.result c.from_residual.ensures.1 in
    record {
      ok = rw p.1 tt;
      inside = rw p.1 tt;
      unexpected = λ at e. (sym counted ∙ c.in_default.is, error-unexpected text tokens c.model-read.new.cursor c.in_err-model.field-0.0 at returned (same-error c.from_residual.result p.0 c.in_err-model.field-0.0 (errors.Unexpected at) p.1 p.2 e));
      too_deep = λ at e. absurd (error-never_deep text tokens c.model-read.new.cursor c.in_err-model.field-0.0 at returned (same-error c.from_residual.result p.0 c.in_err-model.field-0.0 (errors.TooDeep at) p.1 p.2 e));
    }
