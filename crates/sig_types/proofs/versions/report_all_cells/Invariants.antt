use Rattle.std.proofs.Common.{◌≡◌, ◌≤◌, map, drop}
use Rattle.sig_base.specs.declared.limits.TheConstants.{CELLS_MAX}
use Rattle.model_core.specs.Code.WrittenViews.{written_variable}
use Rattle.model_core.specs.Static.VersionFaults.{cells_faults}
use Rattle.sig_types.proofs.versions.report_all_cells.Given as goal

-- nothing is reported yet, and of all arrays those are left that aren't counted
abbrev pub invariant-loop-raw : goal.invariant-loop-raw
invariant-loop-raw l = record {
  unchanged : l.fault ≡ l.fn.fault;
  within_limit : l.before ≤ CELLS_MAX;
  left : cells_faults l.before (map written_variable (drop l.raw-index l.raws)) ≡ cells_faults 0 (map written_variable l.raws);
}
