use Rattle.std.proofs.Common.{refl}
use Rattle.std.specs.Fmt.{digits}
use Rattle.model_core.specs.Text.Expressions.{level_format}
use Rattle.model_core.specs.Text.Language.{signed_format, literal_format, kind_format, variable_format, row_format, table_format, watch_format, target_format, choice_format, source_format, change_format, values_format, when_format, delay_format, timing_format, schedule_format, urgent_format, cancelled_format, cancel_format, edge_format, vertex_format, version_format, text_format}
use Rattle.text_laws.specs.FormatReader.{read_within, rule_at, many_within, many_at}
use Rattle.text_laws.specs.LanguageReader.{level_lookahead}
use Rattle.worked_runs.proofs.whole_texts.texts_have_first_faults.Goals as goal

pub returns : goal.returns
unfolding digits level_format read_within rule_at many_within many_at level_lookahead signed_format literal_format kind_format variable_format row_format table_format watch_format target_format choice_format source_format change_format values_format when_format delay_format timing_format schedule_format urgent_format cancelled_format cancel_format edge_format vertex_format version_format text_format
returns c = record {
  kind = refl;
  range = refl;
  twice = refl;
  priority = refl;
  initial = refl;
  parenthesis = refl;
  chain = refl;
  large_number = refl;
  none = refl;
  none_in_the_desk = refl;
}
