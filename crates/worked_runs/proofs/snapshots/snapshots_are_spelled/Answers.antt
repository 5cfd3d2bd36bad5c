use Rattle.std.proofs.Common.{refl}
use Rattle.model_core.specs.Text.Language.{signed_format}
use Rattle.model_core.specs.Text.SnapshotGrammar.{stream_format, value_format, noted_format, exact_format, carried_format, carries_format, pending_format, snapshot_format}
use Rattle.text_laws.specs.FormatReader.{read_within, rule_at, many_within, many_at}
use Rattle.text_laws.specs.LanguageReader.{level_lookahead}
use Rattle.worked_runs.proofs.GrammarLaws.{is_spelled}
use Rattle.worked_runs.proofs.snapshots.snapshots_are_spelled.Goals as goal

pub returns : goal.returns
unfolding read_within rule_at many_within many_at level_lookahead signed_format stream_format value_format noted_format exact_format carried_format carries_format pending_format snapshot_format
returns c = record {
  shortest = is_spelled refl;
  each_part = is_spelled refl;
  words_for_names = is_spelled refl;
  too_large = is_spelled refl;
}
