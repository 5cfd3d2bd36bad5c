use Rattle.std.proofs.Common.{refl}
use Rattle.model_core.specs.Text.Expressions.{level_format}
use Rattle.model_core.specs.Text.Language.{signed_format, literal_format, kind_format, variable_format, row_format, table_format, watch_format, target_format, choice_format, source_format, change_format, values_format, when_format, delay_format, timing_format, schedule_format, urgent_format, cancelled_format, cancel_format, edge_format, vertex_format, version_format, text_format}
use Rattle.model_core.specs.Text.CertificateText.{plain_name_format, edge_number_format, prune_format, settle_format, drop_format, merge_format, slice_format, application_format, certificate_format}
use Rattle.text_laws.specs.FormatReader.{read_within, rule_at, many_within, many_at}
use Rattle.text_laws.specs.LanguageReader.{level_lookahead}
use Rattle.worked_runs.proofs.DocumentLaws.{no_certificate}
use Rattle.worked_runs.proofs.certificates.certificates_are_refused.Goals as goal

pub returns : goal.returns
unfolding level_format read_within rule_at many_within many_at level_lookahead signed_format literal_format kind_format variable_format row_format table_format watch_format target_format choice_format source_format change_format values_format when_format delay_format timing_format schedule_format urgent_format cancelled_format cancel_format edge_format vertex_format version_format text_format plain_name_format edge_number_format prune_format settle_format drop_format merge_format slice_format application_format certificate_format
returns c = record {
  empty = no_certificate refl;
  no_end = no_certificate refl;
  after_end = no_certificate refl;
  no_name = no_certificate refl;
  no_number = no_certificate refl;
  three_names = no_certificate refl;
}
