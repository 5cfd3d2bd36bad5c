use Rattle.model_core.specs.Rules.Drop.{edge_renumbered}
use Rattle.model_core.specs.Code.Views.{edge_of}
use Rattle.mark_laws.proofs.WrittenAnew.{WrittenAnew}
use Rattle.marked_walks.proofs.renumbering.renumber_edges.Given as goal

abbrev pub invariant-loop-edge : goal.invariant-loop-edge
invariant-loop-edge g l = WrittenAnew edge_of (edge_renumbered (g.N.NewPlaces.moved l.places)) l.edge-index l.initial.edge-items l.edge-items
