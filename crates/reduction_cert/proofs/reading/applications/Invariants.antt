use Rattle.std.proofs.Common.{◌≡◌, map, length}
use Rattle.model_core.specs.Code.Views.{application_of}
use Rattle.model_core.specs.Text.Format.{Many}
use Rattle.model_core.specs.Text.CertificateText.{application_format}
use Rattle.text_laws.specs.LanguageReader.{language_reader}
use Rattle.text_laws.specs.FormatReader.{with_front}
use Rattle.reduction_cert.proofs.reading.applications.Given as goal

abbrev pub invariant-loop-alloc : goal.invariant-loop-alloc
invariant-loop-alloc l = with_front (map application_of l.all) (language_reader (Many application_format) l.cursor) ≡ language_reader (Many application_format) l.fn.cursor

abbrev pub decreases-loop-alloc : goal.decreases-loop-alloc
decreases-loop-alloc l = length l.cursor
