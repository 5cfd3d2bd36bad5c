use Rattle.std.proofs.Common.{arith, sym}
use Rattle.std.proofs.lemmas.List.{at_drop_all}
use Rattle.model_lex.proofs.Digits.{number_on, literal_value-large, no_value}
use Rattle.model_lex.proofs.numbers.literal_value.Goals as goal

-- ten times the value so far is too large
pub returns-then-value-gt-TENTH : goal.returns-then-value-gt-TENTH
returns-then-value-gt-TENTH c =
    sym (no_value c.args.digits.now c.loop-digit.digit-index c.loop-digit.value c.loop-digit-test.true c.loop-digit.invariant (omega (arith, c.if-value-gt-TENTH.true)))

-- all of the digits are
pub returns-else-value-lt-BEYOND : goal.returns-else-value-lt-BEYOND
returns-else-value-lt-BEYOND c =
    let all = at_drop_all (number_on c.loop-digit.value) c.args.digits.now c.loop-digit.digit-index c.loop-digit-test.false in
    sym (literal_value-large c.args.digits.now (omega arith))
