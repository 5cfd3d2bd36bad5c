use Rattle.std.proofs.Common.{◌≡◌, ◌∙◌, ◌<◌, sym, ap, map, take, length, get_or, List, [], ◌∷◌, ◌++◌, add-one, arith}
use Rattle.std.proofs.lemmas.List.{take_at, map_more}
use Rattle.model_core.specs.declared.vertex.Vertex.{Vertex}
use Rattle.model_core.specs.Code.Views.{graph_of, vertex_of}
use Rattle.sig_base.proofs.Lists.{ChangedTo-at, ChangedTo-step, ChangedTo-all, ChangedTo-length, one_more}
use Rattle.reducer.specs.Inner.Sweep.{swept_vertex, applied_to}
use Rattle.reducer.proofs.sweeping.sweep_vertices.Goals as goal

pub loop-vertex-preserved : goal.loop-vertex-preserved
loop-vertex-preserved c =
    let f = swept_vertex c.args.rule (graph_of c.args.model.now) in
    let i = c.loop-vertex.vertex-index in
    let xs = c.deref_mut-vertex-items.result.now in
    let ys = c.loop-vertex.vertex-items in
    let d = c.vertex-item.result in
    let same_length = ChangedTo-length vertex_of f i xs ys c.loop-vertex.invariant.swept in
    let below : i < length ys = omega (arith, same_length, c.loop-vertex-test.true) in
    record {
      swept = rw add-one (ChangedTo-step vertex_of f i xs ys d c.sweep_vertex.new.vertex below c.in_ok-sweep_vertex.ensures.swept c.loop-vertex.invariant.swept);
      applied = one_more (applied_to c.args.rule (graph_of c.args.model.now)) _ _ _ _ _ (vertex_of (get_or ys i d))
          (map_more vertex_of xs i d c.loop-vertex-test.true ∙ ap (λ (x : Vertex). map vertex_of (take i xs) ++ vertex_of x ∷ []) (sym (ChangedTo-at vertex_of f i xs ys d c.loop-vertex.invariant.swept)))
          c.in_ok-sweep_vertex.ensures.applied c.loop-vertex.invariant.applied;
    }

pub returns-clause-swept : goal.returns-clause-swept
returns-clause-swept c =
    let f = swept_vertex c.args.rule (graph_of c.args.model.now) in
    let i = c.loop-vertex.vertex-index in
    let xs = c.deref_mut-vertex-items.result.now in
    let ys = c.loop-vertex.vertex-items in
    let same_length = ChangedTo-length vertex_of f i xs ys c.loop-vertex.invariant.swept in
    let at_end : length ys ≡ i = omega (arith, same_length) in
    ap (map vertex_of) (take_at ys _ _ (omega (arith, same_length, c.args.vertices.now.ok.0)))
    ∙ ChangedTo-all vertex_of f i xs ys at_end c.loop-vertex.invariant.swept
    ∙ ap (λ (vs : List Vertex). map f (map vertex_of vs)) c.deref_mut-vertex-items.ensures.value
