-- The vertex has the edges that the sweep leaves.
use Rattle.std.proofs.Common.{◌∙◌, sym, ap, map, List}
use Rattle.std.proofs.lemmas.Result.{on_ok_weaker}
use Rattle.model_core.specs.declared.vertex.Edge.{Edge}
use Rattle.model_core.specs.EventGraph.{EventEdge}
use Rattle.model_core.specs.Code.Views.{graph_of, vertex_of, edge_of}
use Rattle.edge_pruning.specs.declared.finding.EdgeRule.{EdgeRule}
use Rattle.reducer.specs.Inner.Sweep.{swept_vertex, settled_if_proved}
use Rattle.reducer.proofs.SweepCode.{settled_edges}
use Rattle.reducer.proofs.sweeping.sweep_vertex.Goals as goal

pub returns-in-Settle-clause-swept : goal.returns-in-Settle-clause-swept
returns-in-Settle-clause-swept c =
    let g = graph_of c.args.model.now in
    on_ok_weaker c.settle_edges.result
    (λ swept.
    ap (λ (es : List EventEdge). record (vertex_of c.args.vertex.now) { edges = es }) (swept ∙ ap (λ (es : List Edge). map (settled_if_proved g) (map edge_of es)) c.as_mut_vec-edges.ensures.shows ∙ settled_edges g (map edge_of c.args.vertex.now.edges))
    ∙ ap (λ (rule : EdgeRule). swept_vertex rule g (vertex_of c.args.vertex.now)) (sym c.in-Settle.is))
    c.settle_edges.ensures.swept
