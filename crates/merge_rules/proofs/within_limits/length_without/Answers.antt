-- The edge's line is a part of the text.
use Rattle.std.proofs.Common.{◌≡◌, ◌∙◌, ◌-◌, ◌^◌, length, min, ap, subst, arith}
use Rattle.model_core.specs.Text.Canonical.{canonical}
use Rattle.model_core.specs.Rules.Prune.{pruned}
use Rattle.model_core.specs.Code.Views.{graph_of}
use Rattle.model_facts.specs.FactsOfModel.{TextLengthIsRight}
use Rattle.merge_rules.specs.Growth.{bytes_gone}
use Rattle.model_facts.specs.KnownLengths.{capped}
use Rattle.merge_rules.proofs.MergedText.LimitsTested.{first_among, urgent_there, gone_within, without_here, part_taken}
use Rattle.merge_rules.proofs.within_limits.length_without.Goals as goal

pub overflow_sub-result : goal.overflow_sub-result
overflow_sub-result c =
    let g = graph_of c.args.model.now in
    let exact : c.in-Some.bytes ≡ length (canonical g) = subst (TextLengthIsRight g) c.in-Some.is c.requires.measured in
    let within = gone_within g c.args.first c.args.second c.requires.holds in
    let gone : c.args.gone ≡ min (bytes_gone g c.args.first) (2 ^ 64 - 1) = c.requires.gone in
    omega (arith, exact, within, gone)

pub returns-in-None : goal.returns-in-None
returns-in-None c =
    let g = graph_of c.args.model.now in
    let whole = without_here c.args.model.now c.args.first c.args.second c.requires.holds c.as_slice.result.now c.as_slice.ensures c.index-as_slice-first.result c.index-as_slice-first.is c.urgent_place.result c.urgent_place.ensures.at in
    let left : length (canonical (pruned g c.args.first c.urgent_place.result)) ≡ length (canonical g) - bytes_gone g c.args.first = omega (arith, whole) in
    c.length_without_edge.ensures ∙ ap capped left

pub returns-in-Some : goal.returns-in-Some
returns-in-Some c =
    let g = graph_of c.args.model.now in
    let exact : c.in-Some.bytes ≡ length (canonical g) = subst (TextLengthIsRight g) c.in-Some.is c.requires.measured in
    part_taken (2 ^ 64 - 1) c.in-Some.bytes (length (canonical g)) (bytes_gone g c.args.first) c.args.gone exact (gone_within g c.args.first c.args.second c.requires.holds) c.requires.gone (omega arith)

pub bounds-as_slice-first : goal.bounds-as_slice-first
bounds-as_slice-first c = first_among c.args.model.now c.args.first c.args.second c.requires.holds c.as_slice.result.now c.as_slice.ensures

pub urgent_place-requires : goal.urgent_place-requires
urgent_place-requires c = urgent_there c.args.model.now c.args.first c.args.second c.requires.holds c.as_slice.result.now c.as_slice.ensures c.index-as_slice-first.result c.index-as_slice-first.is
