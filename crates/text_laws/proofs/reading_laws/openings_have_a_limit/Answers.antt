use Rattle.text_laws.proofs.OpeningLaws.{none-is_few, few-is_none}
use Rattle.text_laws.proofs.reading_laws.openings_have_a_limit.Goals as goal

pub returns : goal.returns
returns c = record {
  none = none-is_few;
  none_too_deep = few-is_none;
}
