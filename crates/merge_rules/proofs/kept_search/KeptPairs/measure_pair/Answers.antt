-- Where the two fit the first seven conditions hold.
use Rattle.std.proofs.Common.{◌<◌, ◌∙◌, Bool, Some, None, cond, refl, sym, ap, length, arith}
use Rattle.std.proofs.lemmas.List.{length-map}
use Rattle.model_core.specs.Code.Views.{graph_of, vertex_of}
use Rattle.merge_rules.specs.Growth.{growth}
use Rattle.merge_rules.proofs.MergedText.LimitsTested.{second_among}
use Rattle.merge_rules.proofs.PairsBetweenMerges.PairsFit.{seven-hold}
use Rattle.merge_rules.proofs.kept_search.KeptPairs.measure_pair.Goals as goal

pub find_body-body-requires-clause-there : goal.find_body-body-requires-clause-there
find_body-body-requires-clause-there c =
    let g = graph_of c.args.model.now in
    let there : c.args.first < length g.vertices = omega (arith, c.requires.there, length-map c.args.model.now.vertices vertex_of) in
    second_among c.args.model.now c.args.first c.args.second (seven-hold g c.args.first c.args.second c.requires.single c.requires.target there (sym c.pair_fits.ensures.fits ∙ c.if-not-pair_fits.false)) c.args.model.now.vertices refl

pub grows_by-requires-clause-holds : goal.grows_by-requires-clause-holds
grows_by-requires-clause-holds c =
    let g = graph_of c.args.model.now in
    let there : c.args.first < length g.vertices = omega (arith, c.requires.there, length-map c.args.model.now.vertices vertex_of) in
    seven-hold g c.args.first c.args.second c.requires.single c.requires.target there (sym c.pair_fits.ensures.fits ∙ c.if-not-pair_fits.false)

pub returns-then-not-pair_fits-clause-growth : goal.returns-then-not-pair_fits-clause-growth
returns-then-not-pair_fits-clause-growth c =
    let g = graph_of c.args.model.now in
    ap (λ (fits : Bool). cond fits (Some (growth g c.args.first)) None) (sym c.if-not-pair_fits.true ∙ c.pair_fits.ensures.fits)

pub returns-clause-growth : goal.returns-clause-growth
returns-clause-growth c =
    let g = graph_of c.args.model.now in
    ap Some c.grows_by.ensures ∙ ap (λ (fits : Bool). cond fits (Some (growth g c.args.first)) None) (sym c.if-not-pair_fits.false ∙ c.pair_fits.ensures.fits)
