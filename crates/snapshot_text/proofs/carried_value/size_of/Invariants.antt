use Rattle.std.proofs.Common.{◌≡◌, ◌-◌, drop, map}
use Rattle.std.specs.Int.Digits.{number_from_digits, number_from_digits_after}
use Rattle.snapshot_text.proofs.carried_value.size_of.Given as goal

-- the rest of the digits turn the value so far into the number
abbrev pub invariant-loop-digit : goal.invariant-loop-digit
invariant-loop-digit l =
    number_from_digits_after 10 l.value (map (λ c. c - 48) (drop l.digit-index l.digits)) ≡ number_from_digits 10 (map (λ c. c - 48) l.digits)
