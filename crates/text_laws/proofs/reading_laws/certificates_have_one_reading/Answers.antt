use Rattle.model_core.specs.Text.CertificateText.{certificate_format}
use Rattle.text_laws.proofs.Formats.TextLaws.{one_value, spelled_or_wrong, one_wrong_place}
use Rattle.text_laws.proofs.Formats.OneTokenDecides.{certificate-fine}
use Rattle.text_laws.proofs.reading_laws.certificates_have_one_reading.Goals as goal

pub returns : goal.returns
returns c = record {
  one_certificate = one_value certificate_format certificate-fine;
  certificate_or_none = spelled_or_wrong certificate_format certificate-fine;
  one_wrong_place = one_wrong_place certificate_format;
}
