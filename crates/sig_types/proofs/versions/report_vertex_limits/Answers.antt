use Rattle.std.proofs.Common.{◌++◌, map}
use Rattle.std.specs.List.{flat_map}
use Rattle.sig_base.specs.declared.limits.TheConstants.{PARAMETERS_MAX_VERSION_1}
use Rattle.model_core.specs.Code.WrittenViews.{written_name, written_vertex}
use Rattle.model_core.specs.Static.RuleTable.{too_many}
use Rattle.model_core.specs.Static.PartFaults.{written_items}
use Rattle.model_core.specs.Static.VersionFaults.{target_faults_version_1, delay_faults_version_1}
use Rattle.model_core.specs.Text.Written.{WrittenName, WrittenEdge}
use Rattle.static_laws.proofs.Checks.{earliest_in_turn}
use Rattle.static_laws.proofs.LeftOut.{map-items}
use Rattle.sig_types.proofs.versions.report_vertex_limits.Goals as goal

pub returns : goal.returns
returns c =
    let v = written_vertex c.args.raw.now in
    let parameters = too_many PARAMETERS_MAX_VERSION_1 (map (λ (n : WrittenName). n.at) (written_items v.parameters)) in
    let targets = flat_map target_faults_version_1 v.changes in
    earliest_in_turn _ c.report_target_counts.new.fault _ (parameters ++ targets) (flat_map (λ (e : WrittenEdge). delay_faults_version_1 e.kind) v.edges)
    (earliest_in_turn _ c.report_too_many.new.fault _ parameters targets (rw (c.items.ensures, map-items written_name c.args.raw.now.params) at c.report_too_many.ensures) (rw c.as_slice.ensures at c.report_target_counts.ensures))
    (rw c.as_slice-2.ensures at c.report_drawn_delays.ensures)
