-- The urgent edges of the vertex exclude each other whatever condition that edge gets, and the others are as they were.
use Rattle.std.proofs.Common.{◌≡◌, ◌∙◌, ◌<◌, true, List, map, length, slice_get, sym, ap, subst, arith}
use Rattle.std.proofs.lemmas.Bool.Decides.{nat_tests}
use Rattle.model_core.specs.declared.vertex.Vertex.{Vertex}
use Rattle.model_core.specs.EventGraph.{EventVertex, Truth}
use Rattle.model_core.specs.Run.Step.{no_vertex, vertex_at}
use Rattle.model_core.specs.Rules.Exclusive.{exclusive}
use Rattle.model_core.specs.Rules.PlacedEdges.{with_place}
use Rattle.model_core.specs.Rules.Settle.{with_true_condition}
use Rattle.model_core.specs.Rules.UrgentEdges.{each_pair, urgent_conditions, single_urgent}
use Rattle.model_core.specs.Code.Views.{graph_of, vertex_of, edge_of}
use Rattle.model_facts.specs.FactsOfModel.{SingleIsRight}
use Rattle.vertex_laws.proofs.ReadElement.{read_at, seen_at}
use Rattle.vertex_laws.proofs.ApartVertices.{apart_at}
use Rattle.model_facts.proofs.EdgesChanged.{settled_single}
use Rattle.model_facts.proofs.after_edge.single_settled.Goals as goal

pub returns-then-may_take_any_condition-clause-right : goal.returns-then-may_take_any_condition-clause-right
returns-then-may_take_any_condition-clause-right c =
    let g = graph_of c.args.model.now in
    let vertex = c.in_ok-get.field-0.now in
    let rightly : c.in_ok-single.field-0 ≡ single_urgent g = subst (SingleIsRight g) c.in_ok-single.was c.requires in
    let single : single_urgent g ≡ true = sym rightly ∙ c.if-branch.true in
    let below : c.args.vertex < length c.as_slice.result.now = grind (arith, nat_tests, c.in_ok-get.ensures.lookup.0) in
    let there : vertex_at g c.args.vertex ≡ vertex_of vertex
    = read_at g.vertices c.args.vertex no_vertex (vertex_of vertex)
    (ap (λ (vs : List Vertex). slice_get (map vertex_of vs) c.args.vertex) (sym c.as_slice.ensures) ∙ seen_at vertex_of c.as_slice.result.now c.args.vertex vertex below c.in_ok-get.ensures.lookup.1) in
    let edges : map edge_of c.as_slice-edges.result.now ≡ (vertex_at g c.args.vertex).edges = ap (map edge_of) c.as_slice-edges.ensures ∙ ap (λ (v : EventVertex). v.edges) (sym there) in
    let pairs : each_pair (exclusive g) (urgent_conditions (map edge_of c.as_slice-edges.result.now)) ≡ true = ap (λ es. each_pair (exclusive g) (urgent_conditions es)) edges ∙ apart_at g g.vertices c.args.vertex single in
    sym (settled_single g c.args.vertex c.args.edge single
    (ap (λ es. each_pair (exclusive g) (urgent_conditions (with_place with_true_condition c.args.edge es))) (sym edges) ∙ c.may_take_any_condition.ensures.serves c.if-may_take_any_condition.true (Truth true) pairs))
