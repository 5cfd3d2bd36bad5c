-- One draw more.
use Rattle.std.proofs.lemmas.List.{take_more}
use Rattle.sig_base.proofs.Lists.{one_more}
use Rattle.var_slicing.specs.Inner.Leading.{leader_pairs}
use Rattle.var_slicing.proofs.streams.add_leader_pairs.Goals as goal

pub loop-draw-preserved : goal.loop-draw-preserved
loop-draw-preserved c = one_more (leader_pairs c.args.leaders.now) _ _ _ _ _ _ (take_more c.args.draws.now c.loop-draw.draw-index (0, 0) c.loop-draw-test.true) c.in_ok-add_leader_pair.ensures c.loop-draw.invariant
