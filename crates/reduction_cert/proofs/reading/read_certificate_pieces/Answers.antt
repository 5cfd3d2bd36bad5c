-- The answer is that of the reader of the grammar.
use Rattle.std.proofs.Common.{◌≡◌, ◌∙◌, drop, map, refl, sym}
use Rattle.model_core.specs.Code.Views.{application_of}
use Rattle.model_core.specs.Text.CertificateText.{certificate_format}
use Rattle.model_core.specs.Text.FirstWrong.{wrong_place}
use Rattle.text_laws.specs.FormatReader.{and_next, whole_read}
use Rattle.text_laws.specs.LanguageReader.{language_reader}
use Rattle.model_lex.specs.PiecesOfText.{pieces_lexemes}
use Rattle.model_read.specs.ReadCalls.{Returned, placed_at}
use Rattle.reduction_cert.proofs.CertificateReads.{certificate-ok, certificate-unexpected, certificate-never_deep}
use Rattle.reduction_cert.proofs.reading.read_certificate_pieces.Goals as goal

pub returns : goal.returns
returns c =
    let text = c.args.pieces.now.text.now in
    let tokens = drop c.args.from (pieces_lexemes c.args.pieces.now) in
    let left = c.whole-read.new.cursor in
    let are : c.from_place-cursor.result ≡ tokens = c.from_place-cursor.ensures in
    let read : Returned (map application_of) c.whole-read.result left (and_next whole_read (language_reader certificate_format tokens)) = rw are at c.whole-read.ensures in
    let placed : c.with_place.result ≡ placed_at (wrong_place text left) c.whole-read.result = c.with_place.ensures text refl in
    record {
      ok = rw placed (certificate-ok tokens left (wrong_place text left) c.whole-read.result read);
      unexpected = λ at e. certificate-unexpected text tokens left c.whole-read.result at read (sym placed ∙ e);
      never_too_deep = λ at e. certificate-never_deep (wrong_place text left) c.whole-read.result at (sym placed ∙ e);
    }
