-- The edges of one vertex more, while the parameters of all stay.
use Rattle.std.proofs.Common.{◌≡◌, ◌∙◌, ◌<◌, List, ap, map, length, refl, add-one, arith}
use Rattle.model_core.specs.declared.vertex.Vertex.{Vertex}
use Rattle.model_core.specs.declared.vertex.Edge.{Edge}
use Rattle.model_core.specs.EventGraph.{EventEdge}
use Rattle.model_core.specs.Code.Views.{vertex_of, edge_of}
use Rattle.sig_base.proofs.Lists.{ChangedTo-all, ChangedTo-length}
use Rattle.var_slicing.specs.Inner.StepsOfLeaving.{edge_left_in, edges_left_in}
use Rattle.var_slicing.proofs.LeftInSteps.{one_vertex_more}
use Rattle.var_slicing.proofs.dropping_variables.slice_all_edges.Goals as goal

pub loop-place-preserved : goal.loop-place-preserved
loop-place-preserved c =
    let marks = c.args.staying.now in
    let xs = c.args.vertices.now.items in
    let ys = c.loop-place.vertices.items in
    let i = c.loop-place.place in
    let x = c.index_mut.result.now in
    let same_length = ChangedTo-length vertex_of (edges_left_in (map (λ (v : Vertex). v.params) xs) marks) i xs ys c.loop-place.invariant in
    let below : i < length ys = omega (arith, same_length, c.loop-place-test.true, c.len-place-end.ensures, c.args.vertices.now.ok.0) in
    let left : map edge_of c.from_vec.result ≡ map (edge_left_in (map (λ (v : Vertex). v.params) c.as_slice.result.now) marks) (map edge_of x.edges) =
    ap (map edge_of) c.from_vec.ensures
    ∙ c.slice_edges.ensures
    ∙ ap (λ (es : List Edge). map (edge_left_in (map (λ (v : Vertex). v.params) c.as_slice.result.now) marks) (map edge_of es)) (c.into_vec-edges.ensures ∙ c.replace.ensures.value) in
    rw add-one (one_vertex_more marks i xs ys x _ c.index_mut-in-loop-place.result.now _ below c.index_mut.ensures.value c.index_mut-in-loop-place.ensures.value
    refl (ap (λ (es : List Edge). record (vertex_of x) { edges = map edge_of es }) (c.replace.ensures.after ∙ c.new.ensures))
    (ap (λ (es : List EventEdge). record (vertex_of c.index_mut-in-loop-place.result.now) { edges = es }) left
    ∙ ap (λ (vs : List Vertex). record (vertex_of c.index_mut-in-loop-place.result.now) { edges = map (edge_left_in (map (λ (v : Vertex). v.params) vs) marks) (map edge_of x.edges) }) c.as_slice.ensures.value)
    c.loop-place.invariant)

pub returns : goal.returns
returns c =
    let xs = c.args.vertices.now.items in
    let f = edges_left_in (map (λ (v : Vertex). v.params) xs) c.args.staying.now in
    let ys = c.loop-place.vertices.items in
    let i = c.loop-place.place in
    let same_length = ChangedTo-length vertex_of f i xs ys c.loop-place.invariant in
    ChangedTo-all vertex_of f i xs ys (omega (arith, same_length, c.loop-place-test.false, c.len-place-end.ensures, c.args.vertices.now.ok.0, c.loop-place.auto.place-end)) c.loop-place.invariant
