-- What is kept of the vertex is right.
use Rattle.std.proofs.Common.{◌<◌, ◌∙◌, sym, subst, length, arith}
use Rattle.std.proofs.lemmas.List.{length-map}
use Rattle.model_core.specs.Code.Views.{graph_of, vertex_of}
use Rattle.merge_rules.specs.KeptPairs.{PairsAreRight}
use Rattle.merge_rules.proofs.PairsBetweenMerges.PairsFit.{led-nowhere}
use Rattle.merge_rules.proofs.PairsBetweenMerges.PairsKept.{pair-at}
use Rattle.merge_rules.proofs.kept_search.KeptPairs.merge_at.Goals as goal

pub pair_growth-growth-requires-clause-target : goal.pair_growth-growth-requires-clause-target
pair_growth-growth-requires-clause-target c =
    let g = graph_of c.args.model.now in
    let there : c.args.first < length g.vertices = omega (arith, c.requires.there, length-map c.args.model.now.vertices vertex_of) in
    sym (pair-at g c.self.inside.pairs.items (subst (PairsAreRight g) (sym c.self.view_is) c.requires.kept) c.args.first c.index-pair.result.now there c.index-pair.ensures).target ∙ c.in-Some.is

pub pair_growth-growth-requires-clause-answer : goal.pair_growth-growth-requires-clause-answer
pair_growth-growth-requires-clause-answer c =
    let g = graph_of c.args.model.now in
    let there : c.args.first < length g.vertices = omega (arith, c.requires.there, length-map c.args.model.now.vertices vertex_of) in
    (pair-at g c.self.inside.pairs.items (subst (PairsAreRight g) (sym c.self.view_is) c.requires.kept) c.args.first c.index-pair.result.now there c.index-pair.ensures).answer

pub short_merge-requires-clause-target : goal.short_merge-requires-clause-target
short_merge-requires-clause-target c =
    let g = graph_of c.args.model.now in
    let there : c.args.first < length g.vertices = omega (arith, c.requires.there, length-map c.args.model.now.vertices vertex_of) in
    sym (pair-at g c.self.inside.pairs.items (subst (PairsAreRight g) (sym c.self.view_is) c.requires.kept) c.args.first c.index-pair.result.now there c.index-pair.ensures).target ∙ c.in-Some.is

pub returns-in-None-clause-found : goal.returns-in-None-clause-found
returns-in-None-clause-found c =
    let g = graph_of c.args.model.now in
    let there : c.args.first < length g.vertices = omega (arith, c.requires.there, length-map c.args.model.now.vertices vertex_of) in
    led-nowhere g c.args.first (sym (pair-at g c.self.inside.pairs.items (subst (PairsAreRight g) (sym c.self.view_is) c.requires.kept) c.args.first c.index-pair.result.now there c.index-pair.ensures).target ∙ c.in-None.is)
