use Rattle.std.proofs.Common.{refl}
use Rattle.model_core.specs.Text.Language.{signed_format}
use Rattle.model_core.specs.Text.SnapshotGrammar.{stream_format, value_format, noted_format, exact_format, carried_format, carries_format, pending_format, snapshot_format}
use Rattle.text_laws.specs.FormatReader.{read_within, rule_at, many_within, many_at}
use Rattle.text_laws.specs.LanguageReader.{level_lookahead}
use Rattle.worked_runs.proofs.SnapshotLaws.{no_snapshot}
use Rattle.worked_runs.proofs.snapshots.snapshots_are_refused.Goals as goal

pub returns : goal.returns
unfolding read_within rule_at many_within many_at level_lookahead signed_format stream_format value_format noted_format exact_format carried_format carries_format pending_format snapshot_format
returns c = record {
  empty = no_snapshot refl;
  another_word = no_snapshot refl;
  capital = no_snapshot refl;
  no_seed = no_snapshot refl;
  one_part_of_the_seed = no_snapshot refl;
  three_parts_of_the_seed = no_snapshot refl;
  sign_of_the_seed = no_snapshot refl;
  no_clock = no_snapshot refl;
  no_events = no_snapshot refl;
  no_end = no_snapshot refl;
  after_the_end = no_snapshot refl;
  stream_without_words = no_snapshot refl;
  sign_of_a_stream = no_snapshot refl;
  stream_after_values = no_snapshot refl;
  value_without_a_name = no_snapshot refl;
  value_of_a_reserved_word = no_snapshot refl;
  value_without_values = no_snapshot refl;
  values_without_a_comma = no_snapshot refl;
  values_in_parentheses = no_snapshot refl;
  comma_after_values = no_snapshot refl;
  two_signs = no_snapshot refl;
  truth = no_snapshot refl;
  value_after_noted = no_snapshot refl;
  noted_twice = no_snapshot refl;
  comma_after_noted = no_snapshot refl;
  noted_after_events = no_snapshot refl;
  event_without_priority = no_snapshot refl;
  sign_of_ticks = no_snapshot refl;
  sign_of_a_priority = no_snapshot refl;
  event_without_a_name = no_snapshot refl;
  no_values_in_parentheses = no_snapshot refl;
  open_parenthesis = no_snapshot refl;
  comma_in_parentheses = no_snapshot refl;
  values_without_parentheses = no_snapshot refl;
  semicolon = no_snapshot refl;
}
