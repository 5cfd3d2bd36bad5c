use Rattle.std.proofs.Common.{◌<◌, sym, subst, length, arith}
use Rattle.std.proofs.lemmas.List.{length-map}
use Rattle.model_core.specs.Code.Views.{graph_of, vertex_of}
use Rattle.merge_rules.specs.KeptPairs.{FitIsRight, PairsAreRight}
use Rattle.merge_rules.proofs.PairsBetweenMerges.PairsKept.{are-asked}
use Rattle.merge_rules.proofs.kept_search.KeptPairs.keep_answer.Goals as goal

pub returns : goal.returns
returns c =
    let g = graph_of c.args.model.now in
    let there : c.args.first < length g.vertices = omega (arith, c.requires.there, length-map c.args.model.now.vertices vertex_of) in
    are-asked g c.self.inside.pairs.items (subst (PairsAreRight g) (sym c.self.view_is) c.requires.kept) c.args.first c.index-pair.result.now there c.index-pair.ensures c.pair_answer.result (subst (FitIsRight c.pair_answer.result) c.requires.growth c.pair_answer.ensures)
