use Rattle.merge_rules.proofs.MergedText.LimitsTested.{first_among, second_among, few_here}
use Rattle.merge_rules.proofs.within_limits.keeps_few_parts.Goals as goal

pub returns : goal.returns
returns c = few_here c.args.model.now c.args.first c.args.second c.requires c.as_slice-vertices.result.now c.as_slice-vertices.ensures c.index-vertices-first.result c.index-vertices-second.result c.has_few_parts.result c.index-vertices-first.is c.index-vertices-second.is c.has_few_parts.ensures

pub bounds-vertices-first : goal.bounds-vertices-first
bounds-vertices-first c = first_among c.args.model.now c.args.first c.args.second c.requires c.as_slice-vertices.result.now c.as_slice-vertices.ensures

pub bounds-vertices-second : goal.bounds-vertices-second
bounds-vertices-second c = second_among c.args.model.now c.args.first c.args.second c.requires c.as_slice-vertices.result.now c.as_slice-vertices.ensures
