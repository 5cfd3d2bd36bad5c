-- One more is walked after those before it.
use Rattle.model_core.specs.Rules.Uses.{location_reads}
use Rattle.model_core.specs.Code.Views.{location_of}
use Rattle.use_analysis.proofs.MovedNumbers.{walked_more}
use Rattle.use_analysis.proofs.moving.move_in_indexes.Goals as goal

pub loop-target-preserved : goal.loop-target-preserved
loop-target-preserved c = walked_more location_of location_reads c.args.part _ c.loop-target.target-index c.target-item.result _ _ _ c.loop-target-test.true c.target-item.is c.move_in_index.ensures c.loop-target.invariant
