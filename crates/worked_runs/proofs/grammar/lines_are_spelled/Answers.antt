use Rattle.std.proofs.Common.{refl}
use Rattle.model_core.specs.Text.Expressions.{level_format}
use Rattle.model_core.specs.Text.Language.{signed_format, literal_format, kind_format, variable_format, row_format, table_format, watch_format, target_format, choice_format, source_format, change_format, values_format, when_format, delay_format, timing_format, schedule_format, urgent_format, cancelled_format, cancel_format, edge_format, vertex_format, version_format, text_format}
use Rattle.text_laws.specs.FormatReader.{read_within, rule_at, many_within, many_at}
use Rattle.text_laws.specs.LanguageReader.{level_lookahead}
use Rattle.worked_runs.proofs.GrammarLaws.{is_spelled}
use Rattle.worked_runs.proofs.grammar.lines_are_spelled.Goals as goal

pub returns : goal.returns
unfolding level_format read_within rule_at many_within many_at level_lookahead signed_format literal_format kind_format variable_format row_format table_format watch_format target_format choice_format source_format change_format values_format when_format delay_format timing_format schedule_format urgent_format cancelled_format cancel_format edge_format vertex_format version_format text_format
returns c = record {
  truth_variable = is_spelled refl;
  set = is_spelled refl;
  draw = is_spelled refl;
  schedule = is_spelled refl;
  bare_schedule = is_spelled refl;
  drawn_delay = is_spelled refl;
  drawn_by_table = is_spelled refl;
  urgent = is_spelled refl;
  cancel_next = is_spelled refl;
  cancel_equal = is_spelled refl;
  cancel_all = is_spelled refl;
}
