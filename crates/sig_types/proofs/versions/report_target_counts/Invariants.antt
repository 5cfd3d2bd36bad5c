use Rattle.std.proofs.Common.{◌≡◌, map, take}
use Rattle.std.specs.List.{flat_map}
use Rattle.model_core.specs.Code.WrittenViews.{written_change}
use Rattle.model_core.specs.Static.FaultOrder.{earliest_fault}
use Rattle.model_core.specs.Static.VersionFaults.{target_faults_version_1}
use Rattle.sig_types.proofs.versions.report_target_counts.Given as goal

-- those of the changes before this one are reported
abbrev pub invariant-loop-raw : goal.invariant-loop-raw
invariant-loop-raw l = l.fault ≡ earliest_fault l.fn.fault (flat_map target_faults_version_1 (map written_change (take l.raw-index l.raws)))
