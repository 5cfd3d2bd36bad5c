-- One more: what it adds joins what those before it added.
use Rattle.model_core.specs.Rules.Uses.{change_writes}
use Rattle.model_core.specs.Code.Views.{change_of}
use Rattle.sig_base.proofs.Lists.{seen_more, one_more}
use Rattle.use_analysis.proofs.collecting.add_all_change_writes.Goals as goal

pub loop-change-preserved : goal.loop-change-preserved
loop-change-preserved c = one_more change_writes _ _ _ _ _ _ (seen_more change_of _ c.loop-change.change-index c.change-item.result c.loop-change-test.true c.change-item.is) c.in_ok-add_change_writes.ensures c.loop-change.invariant
