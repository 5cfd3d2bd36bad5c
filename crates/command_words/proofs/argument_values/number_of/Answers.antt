use Rattle.std.proofs.Common.{arith}
use Rattle.sig_base.proofs.DigitsTaken.{digit-le-number}
use Rattle.command_words.proofs.argument_values.number_of.Goals as goal

-- ten times the value so far is too large
pub returns-in_err-checked_mul-clause-none : goal.returns-in_err-checked_mul-clause-none
returns-in_err-checked_mul-clause-none c = λ none.
    let more = digit-le-number c.args.digits.now c.loop-digit.digit-index c.loop-digit.value c.loop-digit-test.true in
    omega (arith, more, c.in_err-checked_mul.ensures, c.loop-digit.invariant)

-- with the digit it is
pub returns-in_err-value-clause-none : goal.returns-in_err-value-clause-none
returns-in_err-value-clause-none c = λ none.
    let more = digit-le-number c.args.digits.now c.loop-digit.digit-index c.loop-digit.value c.loop-digit-test.true in
    omega (arith, more, c.in_err-value.ensures, c.in_ok-checked_mul.ensures, c.loop-digit.invariant)
