use Rattle.std.proofs.Common.{◌≡◌, ◌≤◌, drop, map}
use Rattle.model_core.specs.Run.Value.{in_turn}
use Rattle.model_core.specs.Run.Edges.{treat_edge}
use Rattle.model_core.specs.Code.Views.{graph_of, edge_of}
use Rattle.run_control.specs.Room.{scheduled_by}
use Rattle.run_control.specs.Inner.Planning.{PlanKeeps}
use Rattle.run_control.proofs.plans.Plans.treat_all.Given as goal

abbrev pub invariant-loop-edge : goal.invariant-loop-edge
invariant-loop-edge g l = record {
  so_far : in_turn (treat_edge (graph_of l.model) l.initial.self.seed l.state l.clk) (map edge_of (drop l.edge-index l.edges)) l.self.planned
      ≡ in_turn (treat_edge (graph_of l.model) l.initial.self.seed l.state l.clk) (map edge_of l.edges) l.initial.self.planned;
  spare : scheduled_by (map edge_of (drop l.edge-index l.edges)) ≤ l.self.spare;
  keeps : PlanKeeps l.edge-index l.edge-index l.initial.self l.self;
}
