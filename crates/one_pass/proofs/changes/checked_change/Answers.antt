-- The faults that every text has, and then those of its version.
use Rattle.model_core.specs.Code.WrittenViews.{written_change}
use Rattle.static_laws.proofs.Checks.{before}
use Rattle.one_pass.proofs.changes.checked_change.Goals as goal

pub returns : goal.returns
returns c = record {
  written = written_change c.in_ok-raw.raw;
  read = c.in_ok-raw.ensures;
  checked = before c.report_targets.new.fault _ c.in_ok-change.ensures c.report_targets.ensures;
}
