use Rattle.model_core.specs.Code.Views.{variable_of}
use Rattle.alike_laws.specs.Nameless.{variable_nameless}
use Rattle.mark_laws.proofs.WrittenAnew.{WrittenAnew}
use Rattle.normal_form.proofs.one_form.forget_variable_names.Given as goal

abbrev pub invariant-loop-var : goal.invariant-loop-var
invariant-loop-var l = WrittenAnew variable_of variable_nameless l.var-index l.initial.var-items l.var-items
