use Rattle.std.proofs.Common.{refl}
use Rattle.model_core.specs.Text.Expressions.{level_format}
use Rattle.model_core.specs.Text.Language.{signed_format, literal_format, kind_format, variable_format, row_format, table_format, watch_format, target_format, choice_format, source_format, change_format, values_format, when_format, delay_format, timing_format, schedule_format, urgent_format, cancelled_format, cancel_format, edge_format, vertex_format, version_format, text_format}
use Rattle.text_laws.specs.FormatReader.{read_within, rule_at, many_within, many_at}
use Rattle.text_laws.specs.LanguageReader.{level_lookahead}
use Rattle.worked_runs.proofs.GrammarLaws.{refused}
use Rattle.worked_runs.proofs.grammar.texts_are_refused.Goals as goal

pub returns : goal.returns
unfolding level_format read_within rule_at many_within many_at level_lookahead signed_format literal_format kind_format variable_format row_format table_format watch_format target_format choice_format source_format change_format values_format when_format delay_format timing_format schedule_format urgent_format cancelled_format cancel_format edge_format vertex_format version_format text_format
returns c = record {
  empty = refused refl;
  too_short = refused refl;
  word_as_name = refused refl;
  comment = refused refl;
  no_vertex = refused refl;
  no_end = refused refl;
  end_too_soon = refused refl;
  second_end = refused refl;
  variable_after_watch = refused refl;
  no_row = refused refl;
  no_parameter = refused refl;
  change_after_edge = refused refl;
}
