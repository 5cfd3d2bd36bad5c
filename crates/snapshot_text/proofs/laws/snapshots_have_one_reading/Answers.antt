use Rattle.text_laws.proofs.Formats.TextLaws.{one_value, spelled_or_wrong, one_wrong_place}
use Rattle.model_core.specs.Text.SnapshotGrammar.{snapshot_format}
use Rattle.text_laws.proofs.Formats.OneTokenDecides.{snapshot-fine}
use Rattle.snapshot_text.proofs.laws.snapshots_have_one_reading.Goals as goal

pub returns : goal.returns
returns c = record {
  one_snapshot = one_value snapshot_format snapshot-fine;
  snapshot_or_none = spelled_or_wrong snapshot_format snapshot-fine;
  one_wrong_place = one_wrong_place snapshot_format;
}
