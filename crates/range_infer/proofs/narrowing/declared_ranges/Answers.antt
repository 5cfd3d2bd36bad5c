-- Those of all variables.
use Rattle.std.proofs.Common.{arith}
use Rattle.std.proofs.lemmas.List.{take_all}
use Rattle.range_infer.proofs.narrowing.declared_ranges.Goals as goal

pub returns : goal.returns
returns c = rw (← take_all c.loop-var.var-index c.args.vars.now (omega (arith, c.loop-var-test.false))) c.loop-var.invariant
