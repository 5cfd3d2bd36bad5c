use Rattle.std.proofs.Common.{[]}
use Rattle.model_core.specs.Text.Language.{text_format}
use Rattle.text_laws.proofs.Formats.TextLaws as laws
use Rattle.text_laws.proofs.reading_laws.texts_have_one_reading.Goals as goal

pub returns : goal.returns
returns c = record {
  one_reading = λ tokens m n d e. (laws.one_reading tokens m n [] [] d e).0;
  one_model = laws.one_model;
  one_front = laws.one_reading;
  spelled_or_unexpected = laws.spelled_or_unexpected;
  one_first_wrong = laws.one_first_wrong text_format;
  one_place = laws.one_place;
}
