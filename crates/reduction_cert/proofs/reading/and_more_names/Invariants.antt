use Rattle.std.proofs.Common.{◌≡◌, length}
use Rattle.model_core.specs.Text.Format.{Many}
use Rattle.model_core.specs.Text.CertificateText.{plain_name_format}
use Rattle.text_laws.specs.LanguageReader.{language_reader}
use Rattle.text_laws.specs.FormatReader.{with_front}
use Rattle.reduction_cert.proofs.reading.and_more_names.Given as goal

abbrev pub invariant-loop-alloc : goal.invariant-loop-alloc
invariant-loop-alloc l = with_front l.all (language_reader (Many plain_name_format) l.cursor) ≡ with_front l.fn.names (language_reader (Many plain_name_format) l.fn.cursor)

abbrev pub decreases-loop-alloc : goal.decreases-loop-alloc
decreases-loop-alloc l = length l.cursor
