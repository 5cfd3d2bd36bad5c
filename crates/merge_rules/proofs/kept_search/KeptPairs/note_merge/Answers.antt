use Rattle.std.proofs.Common.{◌∙◌, sym, ap, subst}
use Rattle.std.proofs.lemmas.Result.{on_ok_weaker}
use Rattle.model_core.specs.Rules.Merge.{merged}
use Rattle.model_core.specs.Code.Views.{graph_of}
use Rattle.merge_rules.specs.KeptPairs.{PairsAreRight}
use Rattle.merge_rules.specs.Inner.PairMoves.{pairs_merged}
use Rattle.merge_rules.proofs.PairsBetweenMerges.PairsAfterMerge.{are-merged}
use Rattle.merge_rules.proofs.kept_search.KeptPairs.note_merge.Goals as goal

pub returns : goal.returns
returns c =
    let g = graph_of c.args.model.now in
    let a = c.args.first in
    let b = c.args.second in
    on_ok_weaker c.take_over_pairs.result
    (λ e. subst (PairsAreRight (merged g a b))
    (sym (e ∙ ap (λ es. pairs_merged a b es c.self.inside.pairs.items) c.edges_at.ensures))
    (are-merged g a b c.requires.holds c.self.inside.pairs.items (subst (PairsAreRight g) (sym c.self.view_is) c.requires.kept)))
    c.take_over_pairs.ensures
