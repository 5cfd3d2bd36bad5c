use Rattle.std.proofs.Common.{◌≡◌, map, take}
use Rattle.std.specs.List.{flat_map}
use Rattle.model_core.specs.Code.WrittenViews.{written_variable}
use Rattle.model_core.specs.Static.FaultOrder.{earliest_fault}
use Rattle.model_core.specs.Static.VersionFaults.{size_faults_version_1}
use Rattle.sig_types.proofs.versions.report_array_sizes.Given as goal

-- those of the variables before this one are reported
abbrev pub invariant-loop-raw : goal.invariant-loop-raw
invariant-loop-raw l = l.fault ≡ earliest_fault l.fn.fault (flat_map size_faults_version_1 (map written_variable (take l.raw-index l.raws)))
