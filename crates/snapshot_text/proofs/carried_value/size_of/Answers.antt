-- Where a step leaves 64 bits, the number is too large.
use Rattle.std.proofs.Common.{arith, ◌^◌}
use Rattle.snapshot_text.proofs.DigitsRead.{too_large_so_far}
use Rattle.snapshot_text.proofs.carried_value.size_of.Goals as goal

-- ten times the value so far is too large
pub returns-in_err-checked_mul-clause-is : goal.returns-in_err-checked_mul-clause-is
returns-in_err-checked_mul-clause-is c =
    rw c.from_residual.ensures (too_large_so_far c.args.digits.now (2 ^ 63) c.loop-digit.digit-index c.loop-digit.value c.loop-digit-test.true c.loop-digit.invariant (omega (arith, c.in_err-checked_mul.ensures)))

-- with the digit it is
pub returns-in_err-value-clause-is : goal.returns-in_err-value-clause-is
returns-in_err-value-clause-is c =
    rw c.from_residual-in_err-value.ensures
    (too_large_so_far c.args.digits.now (2 ^ 63) c.loop-digit.digit-index c.loop-digit.value c.loop-digit-test.true c.loop-digit.invariant (omega (arith, c.in_err-value.ensures, c.in_ok-checked_mul.ensures, c.saturating_sub.ensures, c.from.ensures)))
