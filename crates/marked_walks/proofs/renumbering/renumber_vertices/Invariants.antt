use Rattle.model_core.specs.Rules.Drop.{vertex_renumbered}
use Rattle.model_core.specs.Code.Views.{vertex_of}
use Rattle.mark_laws.proofs.WrittenAnew.{WrittenAnew}
use Rattle.marked_walks.proofs.renumbering.renumber_vertices.Given as goal

abbrev pub invariant-loop-vertex : goal.invariant-loop-vertex
invariant-loop-vertex g l = WrittenAnew vertex_of (vertex_renumbered (g.N.NewPlaces.moved l.places)) l.vertex-index l.initial.vertex-items l.vertex-items
