-- The faults that every text has, and then those of its version.
use Rattle.model_core.specs.Code.WrittenViews.{written_edge}
use Rattle.static_laws.proofs.Checks.{before}
use Rattle.one_pass.proofs.edges.checked_edge.Goals as goal

pub returns : goal.returns
returns c = record {
  written = written_edge c.in_ok-raw.raw;
  read = c.in_ok-raw.ensures;
  checked = before c.report_delay.new.fault _ c.in_ok-edge.ensures c.report_delay.ensures;
}
