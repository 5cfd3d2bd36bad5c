-- They fit and the text isn't too long, or one of both isn't so.
use Rattle.std.proofs.Common.{◌<◌, ◌∙◌, sym, length, arith}
use Rattle.std.proofs.lemmas.List.{length-map}
use Rattle.model_core.specs.Code.Views.{graph_of, vertex_of}
use Rattle.merge_rules.proofs.PairsBetweenMerges.PairsFit.{seven-hold, found-short, refused-long, refused-unfit, pair_growth-some, pair_growth-none}
use Rattle.merge_rules.proofs.kept_search.short_merge.Goals as goal

pub returns-in_default-clause-found : goal.returns-in_default-clause-found
returns-in_default-clause-found c =
    let g = graph_of c.args.model.now in
    let there : c.args.first < length g.vertices = omega (arith, c.requires.there, length-map c.args.model.now.vertices vertex_of) in
    refused-unfit g c.args.first c.args.second c.requires.single c.requires.target there (pair_growth-none g c.args.first (sym c.in_default.is ∙ c.requires.growth))

pub has_short_text-requires-clause-holds : goal.has_short_text-requires-clause-holds
has_short_text-requires-clause-holds c =
    let g = graph_of c.args.model.now in
    let there : c.args.first < length g.vertices = omega (arith, c.requires.there, length-map c.args.model.now.vertices vertex_of) in
    seven-hold g c.args.first c.args.second c.requires.single c.requires.target there (pair_growth-some g c.args.first c.in-Some.grows (sym c.in-Some.is ∙ c.requires.growth)).0

pub has_short_text-requires-clause-grows : goal.has_short_text-requires-clause-grows
has_short_text-requires-clause-grows c = (pair_growth-some (graph_of c.args.model.now) c.args.first c.in-Some.grows (sym c.in-Some.is ∙ c.requires.growth)).1

pub returns-then-has_short_text-clause-found : goal.returns-then-has_short_text-clause-found
returns-then-has_short_text-clause-found c =
    let g = graph_of c.args.model.now in
    let there : c.args.first < length g.vertices = omega (arith, c.requires.there, length-map c.args.model.now.vertices vertex_of) in
    found-short g c.args.first c.args.second c.requires.single c.requires.target there _ (pair_growth-some g c.args.first c.in-Some.grows (sym c.in-Some.is ∙ c.requires.growth)).0 c.has_short_text.ensures c.if-has_short_text.true

pub returns-else-has_short_text-clause-found : goal.returns-else-has_short_text-clause-found
returns-else-has_short_text-clause-found c =
    let g = graph_of c.args.model.now in
    let there : c.args.first < length g.vertices = omega (arith, c.requires.there, length-map c.args.model.now.vertices vertex_of) in
    refused-long g c.args.first c.args.second c.requires.single c.requires.target there _ (pair_growth-some g c.args.first c.in-Some.grows (sym c.in-Some.is ∙ c.requires.growth)).0 c.has_short_text.ensures c.if-has_short_text.false
