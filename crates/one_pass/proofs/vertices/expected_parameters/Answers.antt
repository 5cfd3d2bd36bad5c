-- The name, the parameters, and what a text of version 1 may not have of these.
use Rattle.std.proofs.Common.{refl}
use Rattle.model_core.specs.Code.WrittenViews.{written_name, written_vertex}
use Rattle.model_core.specs.Static.RuleTable.{name_too_long}
use Rattle.static_laws.proofs.Checks.{before, after_faults}
use Rattle.static_laws.proofs.LeftOut.{map-items}
use Rattle.one_pass.proofs.vertices.expected_parameters.Goals as goal

pub returns-clause-alike : goal.returns-clause-alike
returns-clause-alike c = c.if-not-begin_alike.ensures.0 refl

pub returns-clause-checked : goal.returns-clause-checked
returns-clause-checked c =
    let params = rw (c.items.ensures, map-items written_name c.args.begun.now.params) at c.in_ok-params.ensures in
    let later = rw (c.items-2.ensures, map-items written_name c.args.begun.now.params) at c.report_later_parameters.ensures in
    before c.report_later_parameters.new.fault _ (after_faults c.args.fault.now (name_too_long (written_vertex c.args.begun.now).name) c.report_long_name.ensures params) later
