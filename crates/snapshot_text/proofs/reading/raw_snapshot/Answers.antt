-- The tokens that were read are a snapshot.
use Rattle.std.proofs.Common.{◌≡◌, drop}
use Rattle.model_core.specs.Text.SnapshotGrammar.{snapshot_format}
use Rattle.model_lex.specs.PiecesOfText.{pieces_lexemes}
use Rattle.text_laws.proofs.Formats.TextLaws.{all-is_spelled}
use Rattle.snapshot_text.specs.Inner.RawParts.{written_snapshot}
use Rattle.snapshot_text.proofs.reading.raw_snapshot.Goals as goal

pub returns-in-Ok : goal.returns-in-Ok
returns-in-Ok c =
    let tokens = drop c.args.from (pieces_lexemes c.args.pieces.now) in
    let are : c.from_place-cursor.result ≡ tokens = c.from_place-cursor.ensures in
    all-is_spelled snapshot_format tokens (written_snapshot c.in-Ok.raw) c.whole.new.cursor (rw are at c.in-Ok.ensures)
