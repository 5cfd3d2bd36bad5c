use Rattle.model_core.specs.Code.WrittenViews.{written_edge}
use Rattle.model_core.specs.Static.VersionFaults.{delay_faults_version_1}
use Rattle.model_core.specs.Text.Written.{WrittenEdge}
use Rattle.sig_types.proofs.FaultsInTurn.{report_turn}
use Rattle.sig_types.proofs.versions.report_drawn_delays.Goals as goal

pub loop-raw-preserved : goal.loop-raw-preserved
loop-raw-preserved c = report_turn written_edge (λ (e : WrittenEdge). delay_faults_version_1 e.kind) _ _ _ c.args.raws.now c.loop-raw.raw-index c.raw-item.result c.loop-raw-test.true c.raw-item.is c.loop-raw.invariant c.report_drawn_delay.ensures
