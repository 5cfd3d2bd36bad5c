-- The `set` takes the values of the edge that goes.
use Rattle.std.proofs.Common.{◌≡◌, ◌∙◌, ◌++◌, ◌<◌, ℕ, List, [], map, length, slice_get, Some, sym, ap, ap₂, arith}
use Rattle.std.proofs.lemmas.List.{map-append}
use Rattle.std.specs.Option.{option_map_or}
use Rattle.model_core.specs.declared.vertex.Change.{Change}
use Rattle.model_core.specs.declared.vertex.Edge.{Edge}
use Rattle.model_core.specs.EventGraph.{StateChange, EventEdge, Expression}
use Rattle.model_core.specs.Rules.Merge.{set_parameters}
use Rattle.model_core.specs.Code.Views.{change_of, edge_of, expression_of}
use Rattle.model_core.proofs.Images.{map-remove}
use Rattle.vertex_laws.proofs.ReadElement.{seen_at}
use Rattle.merge_rules.proofs.taking_over.put_in_place.Goals as goal

pub returns-clause-changes : goal.returns-clause-changes
returns-clause-changes c =
    let below : c.args.place < length c.args.edges.now.items = (let n = c.args.edges.now.ok.0 in omega (arith, n, c.requires.place)) in
    let there : slice_get (map edge_of c.args.edges.now.items) c.args.place ≡ Some (edge_of c.remove-edge.result) = seen_at edge_of c.args.edges.now.items c.args.place c.remove-edge.result below c.remove-edge.ensures.value in
    let values : map expression_of c.into_values.result ≡ option_map_or (λ (e : EventEdge). e.values) (slice_get (map edge_of c.args.edges.now.items) c.args.place) [] = ap (map expression_of) c.into_values.ensures ∙ ap (λ o. option_map_or (λ (e : EventEdge). e.values) o []) (sym there) in
    ap (map change_of) (c.add_all.ensures ∙ ap (λ (cs : List Change). c.add_set.new.changes.items ++ cs) c.into_parts-params.ensures.changes)
    ∙ map-append change_of c.add_set.new.changes.items c.args.other.changes
    ∙ ap (λ (cs : List StateChange). cs ++ map change_of c.args.other.changes)
    (c.add_set.ensures.items ∙ ap₂ (λ (ps : List ℕ) (vs : List Expression). map change_of c.args.changes.now.items ++ set_parameters ps vs) (c.as_slice.ensures ∙ c.into_parts-params.ensures.params) values)

pub returns-clause-edges : goal.returns-clause-edges
returns-clause-edges c =
    ap (map edge_of) (c.add_all-2.ensures ∙ ap (λ (es : List Edge). c.remove-edge.new.self.items ++ es) c.into_parts-params.ensures.edges)
    ∙ map-append edge_of c.remove-edge.new.self.items c.args.other.edges
    ∙ ap (λ (es : List EventEdge). es ++ map edge_of c.args.other.edges) (ap (map edge_of) c.remove-edge.ensures.items ∙ map-remove edge_of c.args.edges.now.items c.args.place)
