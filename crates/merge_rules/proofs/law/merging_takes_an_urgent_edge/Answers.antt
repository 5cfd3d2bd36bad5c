use Rattle.merge_rules.proofs.SingleUrgentModels.OneUrgentLess.{one_urgent_less}
use Rattle.merge_rules.proofs.law.merging_takes_an_urgent_edge.Goals as goal

pub returns : goal.returns
returns c = one_urgent_less
