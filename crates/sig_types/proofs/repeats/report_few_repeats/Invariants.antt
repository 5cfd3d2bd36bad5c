use Rattle.std.proofs.Common.{◌≡◌, [], map, take}
use Rattle.model_core.specs.Code.WrittenViews.{written_name}
use Rattle.model_core.specs.Static.FaultOrder.{earliest_fault}
use Rattle.model_core.specs.Static.PartFaults.{repeated_names}
use Rattle.sig_types.proofs.repeats.report_few_repeats.Given as goal

-- those of the names before this one are reported
abbrev pub invariant-loop-place : goal.invariant-loop-place
invariant-loop-place l = l.fault ≡ earliest_fault l.fn.fault (repeated_names [] (map written_name (take l.place l.raws)))
