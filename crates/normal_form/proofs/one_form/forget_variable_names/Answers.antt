-- One more has no name.
use Rattle.std.proofs.Common.{ℕ, List, get_or, ap}
use Rattle.model_core.specs.Code.Views.{variable_of}
use Rattle.mark_laws.proofs.WrittenAnew.{one_written, all_written}
use Rattle.normal_form.proofs.one_form.forget_variable_names.Goals as goal

pub loop-var-preserved : goal.loop-var-preserved
loop-var-preserved c =
    let var = get_or c.loop-var.var-items c.loop-var.var-index c.var-item.result in
    one_written c.loop-var.invariant _ _ c.loop-var-test.true (ap (λ (name : List ℕ). record (variable_of var) { name = name }) c.clear.ensures.items)

pub returns : goal.returns
returns c = all_written c.loop-var.invariant _ _ c.loop-var-test.false c.loop-var.auto.var-index-end c.args.vars.now.ok.0 c.deref_mut-var-items.ensures.value
