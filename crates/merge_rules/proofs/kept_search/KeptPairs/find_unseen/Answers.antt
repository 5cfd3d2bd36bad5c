use Rattle.std.proofs.Common.{◌<◌, sym, subst, length, arith}
use Rattle.std.proofs.lemmas.List.{length-map}
use Rattle.model_core.specs.Code.Views.{graph_of, vertex_of}
use Rattle.merge_rules.specs.KeptPairs.{PairsAreRight}
use Rattle.merge_rules.proofs.PairsBetweenMerges.PairsKept.{are-seen}
use Rattle.merge_rules.proofs.kept_search.KeptPairs.find_unseen.Goals as goal

pub returns-clause-kept : goal.returns-clause-kept
returns-clause-kept c =
    let g = graph_of c.args.model.now in
    let there : c.args.vertex < length g.vertices = omega (arith, c.requires.there, length-map c.args.model.now.vertices vertex_of) in
    are-seen g c.self.inside.pairs.items (subst (PairsAreRight g) (sym c.self.view_is) c.requires.kept) c.args.vertex c.index-pair.result.now there c.index-pair.ensures c.acts_unseen_at-unseen.result c.acts_unseen_at-unseen.ensures
