use Rattle.std.proofs.Common.{◌+◌, ap, arith, map, drop, length}
use Rattle.model_core.specs.Run.Edges.{treat_edge}
use Rattle.model_core.specs.Code.Views.{graph_of, edge_of}
use Rattle.sig_base.proofs.Lists.{holds_of_each, remaining_more}
use Rattle.run_control.specs.PossibleModel.{PossibleEdge}
use Rattle.run_control.specs.Room.{scheduled_by}
use Rattle.run_control.proofs.PlansKept.{kept_then, plans_again}
use Rattle.run_control.proofs.Turning.{turn_more}
use Rattle.run_control.proofs.plans.Plans.treat_all.Goals as goal

pub treat_edge-requires-clause-possible : goal.treat_edge-requires-clause-possible
treat_edge-requires-clause-possible g c = holds_of_each (PossibleEdge (graph_of c.args.model.now)) edge_of c.args.edges.now c.loop-edge.edge-index c.edge-item.result c.requires.possible (omega arith) c.edge-item.is

pub treat_edge-requires-clause-can : goal.treat_edge-requires-clause-can
treat_edge-requires-clause-can g c =
    plans_again (graph_of c.args.model.now) c.loop-edge.edge-index 0 (length c.args.edges.now) c.loop-edge.edge-index 0 (length c.args.edges.now) c.args.self.now c.loop-edge.self c.requires.can c.loop-edge.invariant.keeps (omega arith) (omega arith)

pub treat_edge-requires-clause-spare : goal.treat_edge-requires-clause-spare
treat_edge-requires-clause-spare g c =
    let remaining = remaining_more edge_of c.args.edges.now c.loop-edge.edge-index c.edge-item.result (omega arith) c.edge-item.is in
    omega (arith, c.loop-edge.invariant.spare, ap scheduled_by remaining)

pub loop-edge-preserved : goal.loop-edge-preserved
loop-edge-preserved g c =
    let graph = graph_of c.args.model.now in
    let before = c.loop-edge.invariant in
    let remaining = remaining_more edge_of c.args.edges.now c.loop-edge.edge-index c.edge-item.result (omega arith) c.edge-item.is in
    let treats = rw c.in_ok-treat_edge.was at c.treat_edge.ensures.treats in
    record {
      so_far = turn_more (λ seed. treat_edge graph seed c.args.state.now c.args.clk) c.args.self.now.seed c.loop-edge.self.seed (map edge_of c.args.edges.now) (map edge_of (drop c.loop-edge.edge-index c.args.edges.now)) (map edge_of (drop (c.loop-edge.edge-index + 1) c.args.edges.now)) (edge_of c.edge-item.result) _ _ _ before.keeps.seed remaining treats before.so_far;
      spare = omega (arith, before.spare, ap scheduled_by remaining, c.treat_edge.ensures.spare);
      keeps = kept_then c.loop-edge.edge-index 1 (c.loop-edge.edge-index + 1) c.loop-edge.edge-index 1 (c.loop-edge.edge-index + 1) c.args.self.now c.loop-edge.self c.treat_edge.new.self before.keeps c.treat_edge.ensures.keeps (omega arith) (omega arith);
    }
