-- One edge more is noted or kept; at the end those that were kept are left.
use Rattle.std.proofs.Common.{◌≡◌, ◌∙◌, ◌<◌, not, map, length, get_or, sym, ap, arith}
use Rattle.std.proofs.lemmas.List.Filters.{FiltersInPlace-all}
use Rattle.model_core.specs.declared.vertex.Edge.{Edge}
use Rattle.model_core.specs.EventGraph.{EventEdge}
use Rattle.model_core.specs.Code.Views.{graph_of, edge_of}
use Rattle.edge_pruning.specs.declared.finding.EdgeRule.TheVariants as edge_rules
use Rattle.edge_pruning.specs.EdgeRules.{edge_test}
use Rattle.sig_base.proofs.Lists.{map-filter}
use Rattle.reducer.proofs.SweepCode.{one_noted, kept_edges, one_there, same_there}
use Rattle.reducer.proofs.sweeping.prune_edges.Goals as goal

pub loop-place-preserved : goal.loop-place-preserved
loop-place-preserved c =
    let g = graph_of c.args.model.now in
    let xs = c.args.edges.now.items in
    let ys = c.loop-place.edges.items in
    let place = c.loop-place.place in
    let so_far = c.loop-place.invariant.placed in
    let long = so_far.long in
    let below : place < length ys = omega (arith, long, c.loop-place-test.true, c.len-place-end.ensures, c.args.edges.now.ok.0) in
    let here : c.index.result.now ≡ get_or ys place c.index.result.now = c.index.ensures in
    record {
      placed = c.keep-kept.ensures.moved (λ (e : Edge). not (edge_test edge_rules.Prune g (edge_of e))) xs so_far
          (λ e is. ap (λ (x : Edge). not (edge_test edge_rules.Prune g (edge_of x))) (one_there ys place e c.index.result.now below is here) ∙ ap not (sym c.can_apply-refuted.ensures));
      noted = one_noted edge_rules.Prune g c.args.vertex.now c.loop-place.kept _ place xs c.index.result.now c.can_apply-refuted.result _ _ _ (omega (arith, long, below)) (same_there xs ys place c.index.result.now so_far.rest here) c.can_apply-refuted.ensures
          c.keep-kept.ensures.count c.in_ok-note_edge.ensures c.loop-place.invariant.noted;
    }

pub returns-clause-swept : goal.returns-clause-swept
returns-clause-swept c =
    let g = graph_of c.args.model.now in
    let xs = c.args.edges.now.items in
    let stays = λ (e : EventEdge). not (edge_test edge_rules.Prune g e) in
    ap (map edge_of) (c.truncate.ensures.items ∙ FiltersInPlace-all c.loop-place.invariant.placed (omega (arith, c.loop-place-test.false, c.len-place-end.ensures, c.args.edges.now.ok.0)))
    ∙ map-filter edge_of stays xs
    ∙ kept_edges g (map edge_of xs)
