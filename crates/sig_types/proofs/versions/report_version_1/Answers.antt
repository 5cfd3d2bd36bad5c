use Rattle.std.specs.List.{flat_map}
use Rattle.model_core.specs.Code.WrittenViews.{written_model}
use Rattle.model_core.specs.Static.VersionFaults.{size_faults_version_1, vertex_faults_version_1}
use Rattle.static_laws.proofs.Checks.{earliest_in_turn}
use Rattle.sig_types.proofs.versions.report_version_1.Goals as goal

pub returns : goal.returns
returns c =
    let m = written_model c.args.raw.now in
    earliest_in_turn _ c.report_array_sizes.new.fault _ (flat_map size_faults_version_1 m.variables) (flat_map vertex_faults_version_1 m.vertices) (rw c.as_slice.ensures at c.report_array_sizes.ensures) (rw c.as_slice-2.ensures at c.report_vertices_limits.ensures)
