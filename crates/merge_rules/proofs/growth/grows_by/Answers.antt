-- The lines that the code measures are those that the `set` adds and that go. With those of the second one's changes and edges,
-- the first are all that is added.
use Rattle.std.proofs.Common.{◌≡◌, ◌∙◌, ◌-◌, ◌^◌, ◌+◌, List, ℕ, map, length, min, sym, ap, ap₂, arith}
use Rattle.std.specs.List.{flat_map}
use Rattle.model_core.specs.declared.expr.Expr.{Expr}
use Rattle.model_core.specs.declared.vertex.Vertex.{Vertex}
use Rattle.model_core.specs.Run.Step.{vertex_at}
use Rattle.model_core.specs.Text.Canonical.{change_line}
use Rattle.model_core.specs.Rules.Merge.{set_parameters}
use Rattle.model_core.specs.Code.Views.{graph_of, expression_of}
use Rattle.vertex_laws.specs.BodyLines.{body_lines}
use Rattle.merge_rules.specs.Growth.{bytes_added, bytes_set}
use Rattle.model_facts.specs.KnownLengths.{capped}
use Rattle.merge_rules.proofs.MergedText.LimitsTested.{first_among, second_among, urgent_there, gone_here, set_here, text_added, capped_sum}
use Rattle.merge_rules.proofs.growth.grows_by.Goals as goal

pub returns : goal.returns
returns c =
    let m = c.args.model.now in
    let g = graph_of m in
    let a = c.index-vertices-first.result in
    let b = c.index-vertices-second.result in
    let e = c.index-as_slice-urgent_place.result in
    let place = c.urgent_place.result in
    let seen = c.as_slice-vertices.result.now in
    let set : List ℕ → List Expr → ℕ = λ params values. length (flat_map (change_line g) (set_parameters params (map expression_of values))) in
    let put : c.set_length.result ≡ capped (bytes_set g c.args.first) =
    c.set_length.ensures
    ∙ ap₂ (λ params values. capped (set params values)) (c.as_slice-params.ensures ∙ ap (λ (v : Vertex). v.params) (sym c.index-vertices-second.is)) c.as_slice-2.ensures
    ∙ ap capped
    (sym (set_here m c.args.first c.args.second c.requires.holds seen c.as_slice-vertices.ensures a c.index-vertices-first.is place c.urgent_place.ensures.at c.urgent_place.ensures.within
    c.as_slice.result.now c.as_slice.ensures e c.index-as_slice-urgent_place.is b c.index-vertices-second.is)) in
    let added =
    c.saturating_add.ensures
    ∙ ap₂ (λ x y. min (x + y) (2 ^ 64 - 1)) put c.requires.body
    ∙ capped_sum (2 ^ 64 - 1) (bytes_set g c.args.first) (length (body_lines g (vertex_at g c.args.second))) (bytes_added g c.args.first) (text_added g c.args.first c.args.second c.requires.holds) in
    let gone =
    c.edge_length.ensures
    ∙ ap capped (sym (gone_here m c.args.first c.args.second c.requires.holds seen c.as_slice-vertices.ensures a c.index-vertices-first.is place c.urgent_place.ensures.at c.urgent_place.ensures.within
    c.as_slice.result.now c.as_slice.ensures e c.index-as_slice-urgent_place.is)) in
    λ i. record { added = added i; gone = gone i }

pub bounds-vertices-first : goal.bounds-vertices-first
bounds-vertices-first c = first_among c.args.model.now c.args.first c.args.second c.requires.holds c.as_slice-vertices.result.now c.as_slice-vertices.ensures

pub bounds-vertices-second : goal.bounds-vertices-second
bounds-vertices-second c = second_among c.args.model.now c.args.first c.args.second c.requires.holds c.as_slice-vertices.result.now c.as_slice-vertices.ensures

pub urgent_place-requires : goal.urgent_place-requires
urgent_place-requires c = urgent_there c.args.model.now c.args.first c.args.second c.requires.holds c.as_slice-vertices.result.now c.as_slice-vertices.ensures c.index-vertices-first.result c.index-vertices-first.is

pub bounds-as_slice-urgent_place : goal.bounds-as_slice-urgent_place
bounds-as_slice-urgent_place c = let same = ap length c.as_slice.ensures in omega (arith, same, c.urgent_place.ensures.within)
