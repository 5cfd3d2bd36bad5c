-- One token of lookahead decides each level of expressions and the grammars of a model text, a certificate and a snapshot.
use Rattle.std.proofs.Common.{◌≡◌, true, [], refl}
use Rattle.model_core.specs.Text.Expressions.{Level, Whole, Disjunction, Conjunction, Negation, Comparison, Sum, Product, Unary, Primary, level_format}
use Rattle.model_core.specs.Text.Language.{signed_format, literal_format, kind_format, variable_format, row_format, table_format, watch_format, target_format, choice_format, source_format, change_format, values_format, when_format, delay_format, timing_format, schedule_format, urgent_format, cancelled_format, cancel_format, edge_format, vertex_format, version_format, text_format}
use Rattle.model_core.specs.Text.CertificateText.{plain_name_format, edge_number_format, prune_format, settle_format, drop_format, merge_format, slice_format, application_format, certificate_format}
use Rattle.model_core.specs.Text.SnapshotGrammar.{stream_format, value_format, noted_format, exact_format, carried_format, carries_format, pending_format, snapshot_format}
use Rattle.text_laws.specs.FirstTokens.{stop_sorts, fine, fine_rule, AreDecided}
use Rattle.text_laws.specs.LanguageReader.{level_lookahead}

each-fine : (r : Level) → fine_rule level_lookahead level_format r ≡ true
unfolding level_format level_lookahead
each-fine Whole = refl
each-fine Disjunction = refl
each-fine Conjunction = refl
each-fine Negation = refl
each-fine Comparison = refl
each-fine Sum = refl
each-fine Product = refl
each-fine Unary = refl
each-fine Primary = refl

pub levels-fine : AreDecided level_lookahead level_format
levels-fine = record { each = each-fine }

pub text-fine : fine level_lookahead text_format ≡ true
unfolding level_lookahead signed_format literal_format kind_format variable_format row_format table_format watch_format target_format choice_format source_format change_format values_format when_format delay_format timing_format schedule_format urgent_format cancelled_format cancel_format edge_format vertex_format version_format text_format
text-fine = refl

-- no token goes on after the word `end`
pub text-ends : stop_sorts level_lookahead text_format ≡ []
unfolding level_lookahead signed_format literal_format kind_format variable_format row_format table_format watch_format target_format choice_format source_format change_format values_format when_format delay_format timing_format schedule_format urgent_format cancelled_format cancel_format edge_format vertex_format version_format text_format
text-ends = refl

pub certificate-fine : fine level_lookahead certificate_format ≡ true
unfolding level_lookahead plain_name_format edge_number_format prune_format settle_format drop_format merge_format slice_format application_format certificate_format
certificate-fine = refl

pub snapshot-fine : fine level_lookahead snapshot_format ≡ true
unfolding level_lookahead signed_format stream_format value_format noted_format exact_format carried_format carries_format pending_format snapshot_format
snapshot-fine = refl
