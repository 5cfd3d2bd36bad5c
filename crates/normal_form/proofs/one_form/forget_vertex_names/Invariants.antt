use Rattle.model_core.specs.Code.Views.{vertex_of}
use Rattle.alike_laws.specs.Nameless.{vertex_nameless}
use Rattle.mark_laws.proofs.WrittenAnew.{WrittenAnew}
use Rattle.normal_form.proofs.one_form.forget_vertex_names.Given as goal

abbrev pub invariant-loop-vertex : goal.invariant-loop-vertex
invariant-loop-vertex l = WrittenAnew vertex_of vertex_nameless l.vertex-index l.initial.vertex-items l.vertex-items
