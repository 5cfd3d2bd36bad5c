-- One edge more is noted, where it is settled.
use Rattle.std.proofs.Common.{◌≡◌, ◌∙◌, ◌<◌, cond, ap, map, length, get_or, List, add-one, arith}
use Rattle.std.proofs.lemmas.List.{take_at}
use Rattle.model_core.specs.declared.vertex.Edge.{Edge}
use Rattle.model_core.specs.Code.Views.{graph_of, edge_of}
use Rattle.model_core.specs.Rules.Settle.{with_true_condition}
use Rattle.sig_base.proofs.Lists.{ChangedTo-at, ChangedTo-step, ChangedTo-all, ChangedTo-length}
use Rattle.edge_pruning.specs.declared.finding.EdgeRule.TheVariants as edge_rules
use Rattle.edge_pruning.specs.EdgeRules.{edge_test}
use Rattle.reducer.specs.Inner.Sweep.{settled_if_proved}
use Rattle.reducer.proofs.SweepCode.{one_noted, one_further}
use Rattle.reducer.proofs.sweeping.settle_edges.Goals as goal

pub loop-edge-preserved : goal.loop-edge-preserved
loop-edge-preserved c =
    let g = graph_of c.args.model.now in
    let f = settled_if_proved g in
    let i = c.loop-edge.edge-index in
    let xs = c.deref_mut-edge-items.result.now in
    let ys = c.loop-edge.edge-items in
    let e = c.edge-item.result in
    let same_length = ChangedTo-length edge_of f i xs ys c.loop-edge.invariant.settled in
    let below : i < length ys = omega (arith, same_length, c.loop-edge-test.true) in
    let there : get_or ys i e ≡ get_or xs i e = ChangedTo-at edge_of f i xs ys e c.loop-edge.invariant.settled in
    let same : get_or ys i e ≡ get_or xs i (get_or ys i e) = there ∙ ap (get_or xs i) (c.edge-item.is) in
    let test : c.can_apply-proved.result ≡ edge_test edge_rules.Settle g (edge_of (get_or ys i e)) = c.can_apply-proved.ensures in
    record {
      counted = omega (arith, c.loop-edge.invariant.counted);
      settled = rw add-one (ChangedTo-step edge_of f i xs ys e _ below (c.settle_edge.ensures ∙ ap (λ b. cond b (with_true_condition (edge_of (get_or ys i e))) (edge_of (get_or ys i e))) test) c.loop-edge.invariant.settled);
      noted = one_noted edge_rules.Settle g c.args.vertex.now c.loop-edge.before _ i xs (get_or ys i e) c.can_apply-proved.result _ _ _ c.loop-edge-test.true same test
          (one_further c.loop-edge.before c.can_apply-proved.result) c.in_ok-note_edge.ensures c.loop-edge.invariant.noted;
    }

pub returns-clause-swept : goal.returns-clause-swept
returns-clause-swept c =
    let f = settled_if_proved (graph_of c.args.model.now) in
    let i = c.loop-edge.edge-index in
    let xs = c.deref_mut-edge-items.result.now in
    let ys = c.loop-edge.edge-items in
    let same_length = ChangedTo-length edge_of f i xs ys c.loop-edge.invariant.settled in
    let at_end : length ys ≡ i = omega (arith, same_length) in
    ap (map edge_of) (take_at ys _ _ (omega (arith, same_length, c.args.edges.now.ok.0)))
    ∙ ChangedTo-all edge_of f i xs ys at_end c.loop-edge.invariant.settled
    ∙ ap (λ (es : List Edge). map f (map edge_of es)) c.deref_mut-edge-items.ensures.value
