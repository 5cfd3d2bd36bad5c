use Rattle.std.proofs.Common.{refl, arith}
use Rattle.model_core.specs.Text.Expressions.{level_format}
use Rattle.model_core.specs.Text.Language.{signed_format, literal_format, kind_format, variable_format, row_format, table_format, watch_format, target_format, choice_format, source_format, change_format, values_format, when_format, delay_format, timing_format, schedule_format, urgent_format, cancelled_format, cancel_format, edge_format, vertex_format, version_format, text_format}
use Rattle.model_core.specs.Text.CertificateText.{plain_name_format, edge_number_format, prune_format, settle_format, drop_format, merge_format, slice_format, application_format, certificate_format}
use Rattle.text_laws.specs.FormatReader.{read_within, rule_at, many_within, many_at}
use Rattle.text_laws.specs.LanguageReader.{level_lookahead}
use Rattle.std.specs.Prelude.{◌≡◌, length}
use Rattle.sig_base.specs.declared.limits.TheConstants.{DOCUMENT_MAX}
use Rattle.worked_runs.specs.CertificateTexts.{two_models}
use Rattle.worked_runs.proofs.DocumentLaws.{document_read}
use Rattle.worked_runs.proofs.certificates.documents_are_read.Goals as goal

pub returns : goal.returns
unfolding level_format read_within rule_at many_within many_at level_lookahead signed_format literal_format kind_format variable_format row_format table_format watch_format target_format choice_format source_format change_format values_format when_format delay_format timing_format schedule_format urgent_format cancelled_format cancel_format edge_format vertex_format version_format text_format plain_name_format edge_number_format prune_format settle_format drop_format merge_format slice_format application_format certificate_format
returns c =
    let size : length two_models ≡ 87 = refl in
    let most : DOCUMENT_MAX ≡ 25165824 = refl in
    document_read (λ m. (c.accepted_or_one_fault.ensures.accepted m).0) (omega (arith, size, most)) refl refl refl refl refl refl refl refl refl refl
