use Rattle.std.proofs.Common.{◌∙◌, sym}
use Rattle.model_core.specs.Code.Views.{graph_of}
use Rattle.merge_rules.proofs.PairsBetweenMerges.PairsFit.{not-single}
use Rattle.merge_rules.proofs.kept_search.KeptPairs.first_merge.Goals as goal

pub returns-else-find_single-clause-found : goal.returns-else-find_single-clause-found
returns-else-find_single-clause-found c = not-single (graph_of c.args.model.now) (sym c.find_single.ensures.is ∙ c.if-find_single.false)
