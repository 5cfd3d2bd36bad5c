use Rattle.std.proofs.Common.{◌≡◌, map, take}
use Rattle.std.specs.List.{flat_map}
use Rattle.model_core.specs.Code.WrittenViews.{written_edge}
use Rattle.model_core.specs.Static.FaultOrder.{earliest_fault}
use Rattle.model_core.specs.Static.VersionFaults.{delay_faults_version_1}
use Rattle.model_core.specs.Text.Written.{WrittenEdge}
use Rattle.sig_types.proofs.versions.report_drawn_delays.Given as goal

-- those of the edges before this one are reported
abbrev pub invariant-loop-raw : goal.invariant-loop-raw
invariant-loop-raw l = l.fault ≡ earliest_fault l.fn.fault (flat_map (λ (e : WrittenEdge). delay_faults_version_1 e.kind) (map written_edge (take l.raw-index l.raws)))
