-- Nothing is replaced.
use Rattle.range_infer.proofs.KeptBack.{itself}
use Rattle.range_infer.proofs.RestoredRanges.{stays-back}
use Rattle.range_infer.proofs.refinement.+refine.Goals as goal

pub returns-in-Int-clause-back : goal.returns-in-Int-clause-back
returns-in-Int-clause-back t c = stays-back c.args.left.now c.args.left.now (itself c.args.left.now)

pub returns-in-Int-2-clause-back : goal.returns-in-Int-2-clause-back
returns-in-Int-2-clause-back t c = stays-back c.args.left.now c.args.left.now (itself c.args.left.now)

pub returns-in-Int-3-clause-back : goal.returns-in-Int-3-clause-back
returns-in-Int-3-clause-back t c = stays-back c.args.left.now c.args.left.now (itself c.args.left.now)

pub returns-in-Int-4-clause-back : goal.returns-in-Int-4-clause-back
returns-in-Int-4-clause-back t c = stays-back c.args.left.now c.args.left.now (itself c.args.left.now)

pub returns-in-Cell-clause-back : goal.returns-in-Cell-clause-back
returns-in-Cell-clause-back t c = stays-back c.args.left.now c.args.left.now (itself c.args.left.now)

pub returns-in-Cell-2-clause-back : goal.returns-in-Cell-2-clause-back
returns-in-Cell-2-clause-back t c = stays-back c.args.left.now c.args.left.now (itself c.args.left.now)

pub returns-in-Cell-3-clause-back : goal.returns-in-Cell-3-clause-back
returns-in-Cell-3-clause-back t c = stays-back c.args.left.now c.args.left.now (itself c.args.left.now)
