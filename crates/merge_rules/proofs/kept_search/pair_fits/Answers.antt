-- All conditions but the two hold, or not.
use Rattle.std.proofs.Common.{◌<◌, length, arith}
use Rattle.std.proofs.lemmas.List.{length-map}
use Rattle.model_core.specs.Code.Views.{graph_of, vertex_of}
use Rattle.merge_rules.proofs.PairsBetweenMerges.PairsFit.{refused, fitting}
use Rattle.merge_rules.proofs.kept_search.pair_fits.Goals as goal

pub returns-in-Some-clause-fits : goal.returns-in-Some-clause-fits
returns-in-Some-clause-fits c =
    let g = graph_of c.args.model.now in
    let there : c.args.first < length g.vertices = omega (arith, c.requires.there, length-map c.args.model.now.vertices vertex_of) in
    refused g c.args.first c.args.second c.requires.single c.requires.target there _ _ c.failed_before_limits.ensures.failed c.in-Some.is

pub returns-in-None-clause-fits : goal.returns-in-None-clause-fits
returns-in-None-clause-fits c =
    let g = graph_of c.args.model.now in
    let there : c.args.first < length g.vertices = omega (arith, c.requires.there, length-map c.args.model.now.vertices vertex_of) in
    fitting g c.args.first c.args.second c.requires.single c.requires.target there _ _ c.failed_before_limits.ensures.failed c.in-None.is c.keeps_few_parts.ensures
