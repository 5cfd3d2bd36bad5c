use Rattle.merge_rules.proofs.MergedText.LimitsTested.{text_grown}
use Rattle.merge_rules.proofs.law.merging_adds_the_growth.Goals as goal

pub returns : goal.returns
returns c g first second none = text_grown g first second none
