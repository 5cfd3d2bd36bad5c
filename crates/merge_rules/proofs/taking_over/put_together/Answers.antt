-- What is left of the second vertex takes its place, and then the first one changes beside it, or all is put back.
use Rattle.std.proofs.Common.{◌∙◌, ◌<◌, refl, ap, sym, map, List, length, get_or, slice_index_or, slice_set, arith}
use Rattle.std.proofs.lemmas.List.{length-map, length-set, set-set, set-get_or}
use Rattle.model_core.specs.declared.vertex.Vertex.{Vertex}
use Rattle.model_core.specs.EventGraph.{EventGraph, EventVertex, scalar_location}
use Rattle.model_core.specs.Run.Step.{no_vertex, vertex_at}
use Rattle.model_core.specs.Rules.UrgentEdges.{plain_urgent}
use Rattle.model_core.specs.Rules.Merge.{merged_with}
use Rattle.model_core.specs.Rules.PlacedEdges.{with_place, with_vertex}
use Rattle.model_core.specs.Code.Views.{graph_of, vertex_of}
use Rattle.model_core.proofs.PlacesChanged.{placed-elsewhere}
use Rattle.merge_rules.specs.Hollowed.{second_after_merge}
use Rattle.merge_rules.proofs.HollowedText.{set_is, left_set}
use Rattle.merge_rules.proofs.PairsBetweenMerges.PairsKept.{edges-read}
use Rattle.merge_rules.proofs.taking_over.put_together.Goals as goal

pub take_over_at-requires-clause-first : goal.take_over_at-requires-clause-first
take_over_at-requires-clause-first c =
    let new = length-map c.replace_at-other.new.model.vertices vertex_of in
    let old = length-map c.args.model.now.vertices vertex_of in
    let put = ap (λ (h : EventGraph). length h.vertices) c.replace_at-other.ensures.put in
    let long = length-set (graph_of c.args.model.now).vertices c.args.target (vertex_of c.in_ok-left.left) in
    omega (arith, new, old, put, long, c.requires.first)

pub take_over_at-requires-clause-at : goal.take_over_at-requires-clause-at
take_over_at-requires-clause-at c =
    let vs = (graph_of c.args.model.now).vertices in
    let left = vertex_of c.in_ok-left.left in
    ap (λ (h : EventGraph). plain_urgent (vertex_at h c.args.first)) c.replace_at-other.ensures.put
    ∙ ap (λ (ws : List EventVertex). plain_urgent (slice_index_or ws c.args.first no_vertex)) (set_is (λ v. left) vs c.args.target left no_vertex refl)
    ∙ ap plain_urgent (placed-elsewhere (λ v. left) c.args.target c.args.first vs no_vertex c.requires.apart)
    ∙ c.requires.at

pub take_over_at-requires-clause-targets : goal.take_over_at-requires-clause-targets
take_over_at-requires-clause-targets c =
    let vs = c.args.model.now.vertices in
    let below : c.args.target < length vs = c.requires.target in
    let here = edges-read vs c.args.target c.index-as_slice-target.result below (c.index-as_slice-target.is ∙ ap (λ (ws : List Vertex). get_or ws c.args.target c.index-as_slice-target.result) c.as_slice.ensures) in
    c.in_ok-targets.ensures ∙ ap (map scalar_location) (c.as_slice-2.ensures ∙ sym (ap (λ (v : EventVertex). v.parameters) (c.replace_at-other.ensures.given ∙ here)))

pub replace_at-left-requires : goal.replace_at-left-requires
replace_at-left-requires c =
    let new = length-map c.take_over_at.new.model.vertices vertex_of in
    let old = length-map c.args.model.now.vertices vertex_of in
    let same = ap (λ (h : EventGraph). length h.vertices) (c.in-Err.ensures.unchanged ∙ c.replace_at-other.ensures.put) in
    let long = length-set (graph_of c.args.model.now).vertices c.args.target (vertex_of c.in_ok-left.left) in
    omega (arith, new, old, same, long, c.requires.target)

pub returns-in-Ok-clause-done : goal.returns-in-Ok-clause-done
returns-in-Ok-clause-done c =
    let g = graph_of c.args.model.now in
    let first = c.args.first in
    let target = c.args.target in
    let left = vertex_of c.in_ok-left.left in
    let here = edges-read c.args.model.now.vertices target c.index-as_slice-target.result c.requires.target (c.index-as_slice-target.is ∙ ap (λ (ws : List Vertex). get_or ws target c.index-as_slice-target.result) c.as_slice.ensures) in
    c.in-Ok.ensures.done
    ∙ ap (with_vertex (merged_with (vertex_of c.replace_at-other.result)) first) c.replace_at-other.ensures.put
    ∙ ap (λ (b : EventVertex). record g { vertices = with_place (merged_with b) first (slice_set g.vertices target left) }) c.replace_at-other.ensures.given
    ∙ left_set c.args.second g first target left c.requires.apart (c.in_ok-left.ensures ∙ ap (second_after_merge c.args.second) (sym here))

pub returns-in-Err-clause-unchanged : goal.returns-in-Err-clause-unchanged
returns-in-Err-clause-unchanged c =
    let g = graph_of c.args.model.now in
    let target = c.args.target in
    let left = vertex_of c.in_ok-left.left in
    c.replace_at-left.ensures.put
    ∙ ap (λ (h : EventGraph). record h { vertices = slice_set h.vertices target (vertex_of c.in-Err.other) }) (c.in-Err.ensures.unchanged ∙ c.replace_at-other.ensures.put)
    ∙ ap (λ (b : EventVertex). record g { vertices = slice_set (slice_set g.vertices target left) target b }) (c.in-Err.ensures.given_back ∙ c.replace_at-other.ensures.given)
    ∙ ap (λ (vs : List EventVertex). record g { vertices = vs }) (set-set g.vertices target left (vertex_at g target) ∙ set-get_or g.vertices target no_vertex)
