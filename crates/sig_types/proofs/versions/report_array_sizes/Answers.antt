use Rattle.model_core.specs.Code.WrittenViews.{written_variable}
use Rattle.model_core.specs.Static.VersionFaults.{size_faults_version_1}
use Rattle.sig_types.proofs.FaultsInTurn.{report_turn}
use Rattle.sig_types.proofs.versions.report_array_sizes.Goals as goal

pub loop-raw-preserved : goal.loop-raw-preserved
loop-raw-preserved c = report_turn written_variable size_faults_version_1 _ _ _ c.args.raws.now c.loop-raw.raw-index c.raw-item.result c.loop-raw-test.true c.raw-item.is c.loop-raw.invariant c.report_array_size.ensures
