use Rattle.std.proofs.Common.{◌≡◌, map, drop}
use Rattle.model_core.specs.Code.Views.{vertex_of}
use Rattle.var_slicing.specs.Inner.Needing.{collected_of, with_all_changes}
use Rattle.var_slicing.proofs.needs.Needs.add_all_changes.Given as goal

abbrev pub invariant-loop-vertex : goal.invariant-loop-vertex
invariant-loop-vertex l = with_all_changes l.marks (map vertex_of (drop l.vertex-index l.vertices)) (collected_of l.self) ≡ with_all_changes l.marks (map vertex_of l.vertices) (collected_of l.initial.self)
