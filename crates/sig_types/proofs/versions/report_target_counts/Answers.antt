use Rattle.model_core.specs.Code.WrittenViews.{written_change}
use Rattle.model_core.specs.Static.VersionFaults.{target_faults_version_1}
use Rattle.sig_types.proofs.FaultsInTurn.{report_turn}
use Rattle.sig_types.proofs.versions.report_target_counts.Goals as goal

pub loop-raw-preserved : goal.loop-raw-preserved
loop-raw-preserved c = report_turn written_change target_faults_version_1 _ _ _ c.args.raws.now c.loop-raw.raw-index c.raw-item.result c.loop-raw-test.true c.raw-item.is c.loop-raw.invariant c.report_target_count.ensures
