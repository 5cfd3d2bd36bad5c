-- One more is written anew.
use Rattle.mark_laws.proofs.WrittenAnew.{one_written, all_written}
use Rattle.var_slicing.proofs.new_numbers.renumber_watched_vars.Goals as goal

pub loop-watched-preserved : goal.loop-watched-preserved
loop-watched-preserved c = one_written c.loop-watched.invariant _ _ c.loop-watched-test.true c.item_left.ensures

pub returns : goal.returns
returns c = all_written c.loop-watched.invariant _ _ c.loop-watched-test.false c.loop-watched.auto.watched-index-end c.args.watch.now.ok.0 c.deref_mut-watched-items.ensures.value
