use Rattle.std.proofs.Common.{◌≡◌, map, take}
use Rattle.std.specs.List.{flat_map}
use Rattle.model_core.specs.Code.WrittenViews.{written_vertex}
use Rattle.model_core.specs.Static.FaultOrder.{earliest_fault}
use Rattle.model_core.specs.Static.VersionFaults.{vertex_faults_version_1}
use Rattle.sig_types.proofs.versions.report_vertices_limits.Given as goal

-- those of the vertices before this one are reported
abbrev pub invariant-loop-raw : goal.invariant-loop-raw
invariant-loop-raw l = l.fault ≡ earliest_fault l.fn.fault (flat_map vertex_faults_version_1 (map written_vertex (take l.raw-index l.raws)))
