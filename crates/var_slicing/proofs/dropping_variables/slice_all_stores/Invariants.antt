use Rattle.model_core.specs.Code.Views.{vertex_of}
use Rattle.mark_laws.proofs.WrittenAnew.{WrittenAnew}
use Rattle.var_slicing.specs.Inner.StepsOfLeaving.{own_parts_left}
use Rattle.var_slicing.proofs.dropping_variables.slice_all_stores.Given as goal

abbrev pub invariant-loop-vertex : goal.invariant-loop-vertex
invariant-loop-vertex l = WrittenAnew vertex_of (own_parts_left l.staying) l.vertex-index l.initial.vertex-items l.vertex-items
