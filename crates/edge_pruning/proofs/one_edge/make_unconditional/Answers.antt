-- The edge at the place is written anew, or there is none.
use Rattle.std.proofs.Common.{◌∙◌, refl, ap, map, List, arith}
use Rattle.model_core.specs.declared.vertex.Edge.{Edge}
use Rattle.model_core.specs.EventGraph.{EventEdge}
use Rattle.model_core.specs.Rules.PlacedEdges.{with_place}
use Rattle.model_core.specs.Rules.Settle.{with_true_condition}
use Rattle.model_core.specs.Code.Views.{vertex_of, edge_of}
use Rattle.model_core.proofs.PlacesChanged.{map-set-with_place, with_place-beyond}
use Rattle.edge_pruning.proofs.one_edge.make_unconditional.Goals as goal

pub returns-in-Some : goal.returns-in-Some
returns-in-Some c =
    ap (λ (es : List EventEdge). record (vertex_of c.args.vertex.now) { edges = es })
    (map-set-with_place edge_of with_true_condition c.as_mut_vec-edges.result.now.items c.args.edge c.in-Some.edge.now _ (omega (arith, c.as_mut_vec-edges.result.now.ok.0, c.in-Some.ensures.variant.0 refl)) c.in-Some.ensures.value refl
    ∙ ap (λ (es : List Edge). with_place with_true_condition c.args.edge (map edge_of es)) c.as_mut_vec-edges.ensures.shows)

pub returns-in_default : goal.returns-in_default
returns-in_default c =
    ap (λ (es : List EventEdge). record (vertex_of c.args.vertex.now) { edges = es })
    (with_place-beyond edge_of with_true_condition c.as_mut_vec-edges.result.now.items c.args.edge (λ below. c.in_default.ensures.variant.1 (omega (arith, c.as_mut_vec-edges.result.now.ok.0, below)))
    ∙ ap (λ (es : List Edge). with_place with_true_condition c.args.edge (map edge_of es)) c.as_mut_vec-edges.ensures.shows)
