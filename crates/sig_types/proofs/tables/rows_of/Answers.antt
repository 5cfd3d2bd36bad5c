use Rattle.std.proofs.Common.{map, ◌++◌}
use Rattle.std.proofs.lemmas.Result.{IfOk-weaker}
use Rattle.sig_base.specs.declared.limits.TheConstants.{ROWS_MAX}
use Rattle.model_core.specs.Code.WrittenViews.{written_table}
use Rattle.model_core.specs.Text.Written.{WrittenRow}
use Rattle.model_core.specs.Static.RuleTable.{name_too_long, too_many}
use Rattle.static_laws.proofs.Checks.{after_faults, earliest_in_turn}
use Rattle.sig_types.proofs.tables.rows_of.Goals as goal

pub returns : goal.returns
returns c =
    let t = written_table c.args.raw.now in
    let long = name_too_long t.name in
    let many = too_many ROWS_MAX (map (λ (r : WrittenRow). r.at) t.rows) in
    let reported = earliest_in_turn c.args.fault.now c.report_long_name.new.fault c.report_too_many.new.fault long many c.report_long_name.ensures (rw c.as_slice.ensures at c.report_too_many.ensures) in
    IfOk-weaker c.rows.result _ _ (λ rows checked. after_faults c.args.fault.now (long ++ many) reported (rw c.as_slice-2.ensures at checked)) c.rows.ensures
