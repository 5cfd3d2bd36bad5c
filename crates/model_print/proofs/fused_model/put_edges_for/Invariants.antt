use Rattle.std.proofs.Common.{map, take}
use Rattle.std.specs.List.{flat_map}
use Rattle.model_core.specs.Text.Canonical.{edge_line}
use Rattle.model_core.specs.Rules.Drop.{edge_renumbered}
use Rattle.model_core.specs.Rules.Fuse.{standing_for}
use Rattle.model_core.specs.Code.Views.{edge_of, graph_of}
use Rattle.model_print.proofs.fused_model.put_edges_for.Given as goal

abbrev pub invariant-loop-edge : goal.invariant-loop-edge
invariant-loop-edge g l = g.P.Pen.adds l.initial.out l.out (flat_map (edge_line (graph_of l.model)) (map (edge_renumbered (standing_for l.keep l.gone)) (map edge_of (take l.edge-index l.edges))))
