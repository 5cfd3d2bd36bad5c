use Rattle.std.proofs.Common.{map, ◌++◌}
use Rattle.sig_base.specs.declared.limits.TheConstants.{VARIABLES_MAX, TABLES_MAX, VERTICES_MAX}
use Rattle.model_core.specs.Code.WrittenViews.{written_model}
use Rattle.model_core.specs.Text.Written.{WrittenVariable, WrittenTable, WrittenVertex}
use Rattle.model_core.specs.Static.RuleTable.{too_many}
use Rattle.static_laws.proofs.Checks.{earliest_in_turn}
use Rattle.sig_types.proofs.checking.report_counts.Goals as goal

pub returns : goal.returns
returns c =
    let m = written_model c.args.raw.now in
    let variables = too_many VARIABLES_MAX (map (λ (v : WrittenVariable). v.at) m.variables) in
    let tables = too_many TABLES_MAX (map (λ (t : WrittenTable). t.at) m.tables) in
    let vertices = too_many VERTICES_MAX (map (λ (v : WrittenVertex). v.at) m.vertices) in
    earliest_in_turn c.args.fault.now c.report_too_many-2.new.fault c.report_too_many-3.new.fault (variables ++ tables) vertices
    (earliest_in_turn c.args.fault.now c.report_too_many.new.fault c.report_too_many-2.new.fault variables tables (rw c.as_slice.ensures at c.report_too_many.ensures) (rw c.as_slice-2.ensures at c.report_too_many-2.ensures))
    (rw c.as_slice-3.ensures at c.report_too_many-3.ensures)
