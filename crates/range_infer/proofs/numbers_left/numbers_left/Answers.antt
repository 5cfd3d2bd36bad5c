-- What is left lies in the range.
use Rattle.model_core.specs.Code.Views.{operator_of}
use Rattle.range_infer.proofs.NumbersLeft.{low_left, high_left}
use Rattle.range_infer.proofs.numbers_left.numbers_left.Goals as goal

pub returns-clause-low : goal.returns-clause-low
returns-clause-low c = rw c.ends_left.ensures.lo (low_left (operator_of c.args.op) _ c.args.range)

pub returns-clause-high : goal.returns-clause-high
returns-clause-high c = rw c.ends_left.ensures.hi (high_left (operator_of c.args.op) _ c.args.range)
